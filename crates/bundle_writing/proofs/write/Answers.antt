use mathlib.Core.Path.{sym, ◌∙◌}
use Rattle.bundle_writing.proofs.WriteLaws.{some_wrong, none_wrong, wrong-tables, wrong-nodes, small-buffer, written}
use Rattle.bundle_writing.proofs.write.Goals as goal

pub returns-then-not-tables_ok : goal.returns-then-not-tables_ok
returns-then-not-tables_ok c = let a = c.args in
    sym (wrong-tables a.mode a.catalogue.now a.tables.now a.nodes.now a.text.now (sym c.tables_ok.ensures ∙ c.if-not-tables_ok.true))

pub returns-then-nodes-ne0 : goal.returns-then-nodes-ne0
returns-then-nodes-ne0 c = let a = c.args in
    sym (wrong-nodes a.mode a.catalogue.now a.tables.now a.nodes.now a.text.now (sym c.tables_ok.ensures ∙ c.if-not-tables_ok.false) (some_wrong a.nodes.now c.then-nodes-ne0.either))

pub returns-then-bytes-gt-TEXT_BYTES : goal.returns-then-bytes-gt-TEXT_BYTES
returns-then-bytes-gt-TEXT_BYTES c = let a = c.args in
    sym (small-buffer a.mode a.catalogue.now a.tables.now a.nodes.now a.text.now (sym c.tables_ok.ensures ∙ c.if-not-tables_ok.false)
    (none_wrong a.nodes.now c.if-nodes-ne0.false c.if-count-eq0.false c.if-count-gt-QUESTION_NODES.false) c.count_bytes-bytes.ensures c.then-bytes-gt-TEXT_BYTES.either)

pub returns : goal.returns
returns c = let a = c.args in
    rw c.put_bundle.ensures.stored
    (sym (written a.mode a.catalogue.now a.tables.now a.nodes.now a.text.now (sym c.tables_ok.ensures ∙ c.if-not-tables_ok.false)
    (none_wrong a.nodes.now c.if-nodes-ne0.false c.if-count-eq0.false c.if-count-gt-QUESTION_NODES.false) c.count_bytes-bytes.ensures c.if-bytes-gt-TEXT_BYTES.false c.if-text-bytes.false))
