-- From a bundle's lines to its words: what is read without fault is, byte for byte, the text of the words read followed by the bytes still to come.
-- Assumes nothing.
use Prim.Native.Nat.{ℕ, zero, suc, ◌+◌, ◌*◌, ◌/◌, ◌≤◌}
use mathlib.Core.Path.{◌≡◌, refl, sym, ap, ◌∙◌}
use mathlib.Core.List.{List, [], ◌∷◌, ◌++◌, append_assoc, append-nil}
use mathlib.Core.Bool.{Bool, true, false, cond, ◌&&◌}
use native.Mathlib.Omega.{arith}
use native.Mathlib.Nat.{mul_comm}
use lib.Dec.{leb, ltb}
use lib.ListN.{length, drop, length-append}
use lib.Seq.{drop_at}
use borrow.Author.Tests.{ltb-false, leb-true}
use Rattle.relations.specs.Limits.{catalogue_pair_limit, word_limit, question_node_limit, question_node_words, byte_limit}
use Rattle.catalogue.specs.Judging.{pair_ok, pairs_ok, catalogue_words}
use Rattle.lines.specs.Marks.{line_feed, space, plain_line, short_line, relation_key, row_key, node_key}
use Rattle.lines.specs.Writing.{numbers_text, line_text, lines_text}
use Rattle.bundles.specs.Writing.{tables_text, mode_text, bundle_text}
use Rattle.lines.specs.Reading.{Number, value, no_number, number_then, Next, goes_on, wrong_at, Read, words_then, begins, keyed_line, keyed_lines}
use Rattle.bundles.specs.Reading.{Relation, relation, no_relation, with_rows, with_columns, relation_of, ReadTables, no_tables, table_behind, table_of, tables_then, and_tables, tables_of, unless_ended, nodes_of, no_bundle, nodes_after, with_tables, lines_of, bundle_in}
use Rattle.lines.specs.Words32.{Words32}
use Rattle.bundles.specs.RoundTrip.{BundleAsText}
use Rattle.relations.proofs.BoolLaws.{and_both, and_left, and_right}
use Rattle.lines.proofs.Words32.{words32_append}
use Rattle.catalogue.proofs.Judgements.{tables-good}
use Rattle.bundles.proofs.Judgements.{nodes-good}
use Rattle.lines.proofs.Numbers.{NumberAsText, number_then-text}
use Rattle.lines.proofs.ReadingLaws.{lines_text-front, begins-text, LinesAsText, two_numbers-text, keyed_line-text, no-next, lines_text_cons, keyed_lines-text}

-- Tables.

-- one table before others, as text
pub tables_text_cons : (columns rows : ℕ) (more first others : List ℕ) → length first ≡ columns * rows
    → tables_text (columns ∷ rows ∷ more) (first ++ others)
    ≡ line_text relation_key (columns ∷ rows ∷ []) ++ lines_text row_key columns rows first ++ tables_text more others
unfolding tables_text
tables_text_cons columns rows more first others many =
    rw (lines_text-front row_key columns rows first others (many ∙ mul_comm columns rows), drop_at first others (columns * rows) many)

pub record RelationAsText (total : ℕ) (bytes : List ℕ) (columns rows : ℕ) (rest : List ℕ) : Type 0 where
  pub text : bytes ≡ numbers_text (columns ∷ rows ∷ []) ++ rest
  pub ok : pair_ok columns rows ≡ true
  pub fits : total + columns * rows ≤ word_limit

pub relation_of-text : (total : ℕ) (bytes : List ℕ) (columns rows : ℕ) (rest : List ℕ) → relation_of total bytes ≡ relation columns rows rest
    → RelationAsText total bytes columns rows rest
unfolding relation_of
relation_of-text total bytes columns rows rest e = first (number_then space bytes) refl e
  where
    no_relation_lem : {C : Type 0} → no_relation ≡ relation columns rows rest → C
    no_relation_lem e = let z : ◌≡◌ {A = ℕ} 0 1 = cc in absurd (omega arith)

    judged : (c r : ℕ) (behind after : List ℕ) → NumberAsText bytes c (space ∷ behind) → NumberAsText behind r (line_feed ∷ after)
        → (good : Bool) → (pair_ok c r && leb (total + c * r) word_limit) ≡ good
        → cond good (relation c r after) no_relation ≡ relation columns rows rest → RelationAsText total bytes columns rows rest
    judged c r behind after t u true g e =
        let columns_is : c ≡ columns = cc in
        let rows_is : r ≡ rows = cc in
        let rest_is : after ≡ rest = cc in
        let built : RelationAsText total bytes c r after =
        record {
          text = two_numbers-text bytes c behind r after t.text u.text;
          ok = and_left (pair_ok c r) (leb (total + c * r) word_limit) g;
          fits = leb-true (total + c * r) word_limit (and_right (pair_ok c r) (leb (total + c * r) word_limit) g);
        }
        in
        rw (columns_is, rows_is, rest_is) at built
    judged c r behind after t u false g e = no_relation_lem e

    second : (c : ℕ) (behind : List ℕ) → NumberAsText bytes c (space ∷ behind) → (found : Number) → number_then line_feed behind ≡ found
        → with_rows total c found ≡ relation columns rows rest → RelationAsText total bytes columns rows rest
    second c behind t (value r after) is e =
        judged c r behind after t (number_then-text line_feed behind r after is) (pair_ok c r && leb (total + c * r) word_limit) refl e
    second c behind t no_number is e = no_relation_lem e

    first : (found : Number) → number_then space bytes ≡ found → with_columns total found ≡ relation columns rows rest
        → RelationAsText total bytes columns rows rest
    first (value c behind) is e = second c behind (number_then-text space bytes c behind is) (number_then line_feed behind) refl e
    first no_number is e = no_relation_lem e

pub record TableAsText (total : ℕ) (bytes : List ℕ) (found : ReadTables) (rest : List ℕ) : Type 0 where
  pub columns : ℕ
  pub rows : ℕ
  pub pair : found.catalogue ≡ columns ∷ rows ∷ []
  pub text : bytes ≡ line_text relation_key (columns ∷ rows ∷ []) ++ lines_text row_key columns rows found.tables ++ rest
  pub ok : pair_ok columns rows ≡ true
  pub fits : total + columns * rows ≤ word_limit
  pub many : length found.tables ≡ columns * rows
  pub words32 : Words32 found.tables

pub table_of-text : (total line : ℕ) (bytes : List ℕ) (after : ℕ) (rest : List ℕ) → begins relation_key bytes ≡ true
    → (table_of total line bytes).next ≡ goes_on after rest → TableAsText total bytes (table_of total line bytes) rest
unfolding table_of
table_of-text total line bytes after rest key e = go (relation_of total (drop (length relation_key) bytes)) refl e
  where
    behind : List ℕ
    behind = drop (length relation_key) bytes

    go : (found : Relation) → relation_of total behind ≡ found → (table_behind line found).next ≡ goes_on after rest
        → TableAsText total bytes (table_behind line found) rest
    go (relation columns rows rowBytes) is e =
        let head : RelationAsText total behind columns rows rowBytes = relation_of-text total behind columns rows rowBytes is in
        let found : Read = keyed_lines row_key columns rows (line + 1) rowBytes in
        let body : LinesAsText (λ words. lines_text row_key columns rows words) (rows * columns) rows (line + 1) rowBytes found after rest =
        keyed_lines-text row_key columns rows (line + 1) rowBytes after rest e
        in
        let names : List ℕ = numbers_text (columns ∷ rows ∷ []) in
        let lines : List ℕ = lines_text row_key columns rows found.words in
        record {
          columns = columns;
          rows = rows;
          pair = refl;
          text =
              begins-text relation_key bytes key
              ∙ ap (λ (tail : List ℕ). relation_key ++ tail) (head.text ∙ ap (λ (tail : List ℕ). names ++ tail) body.text)
              ∙ sym (append_assoc relation_key names (lines ++ rest))
              ∙ sym (append_assoc (relation_key ++ names) lines rest);
          ok = head.ok;
          fits = head.fits;
          many = body.many ∙ mul_comm rows columns;
          words32 = body.words32;
        }
    go no_relation is e = no-next e

-- `found` was read from the front of `bytes`: at most `count` tables, behind others of `total` words
pub record TablesAsText (count total : ℕ) (bytes : List ℕ) (found : ReadTables) (rest : List ℕ) : Type 0 where
  pub text : bytes ≡ tables_text found.catalogue found.tables ++ rest
  pub ok : pairs_ok found.catalogue ≡ true
  pub few : length found.catalogue ≤ 2 * count
  pub many : length found.tables ≡ catalogue_words found.catalogue
  pub fits : total ≤ word_limit → total + catalogue_words found.catalogue ≤ word_limit
  pub words32 : Words32 found.tables

no_tables_read : (count total line : ℕ) (bytes : List ℕ) (after : ℕ) (rest : List ℕ) → goes_on line bytes ≡ goes_on after rest
    → TablesAsText count total bytes (no_tables (goes_on line bytes)) rest
unfolding tables_text pairs_ok catalogue_words
no_tables_read count total line bytes after rest e =
    record { text = cc; ok = refl; few = omega arith; many = refl; fits = λ h. omega arith; words32 = tt }

one_more_read : (count total : ℕ) (bytes : List ℕ) (first : ReadTables) (behind : List ℕ) (others : ReadTables) (rest : List ℕ) (next : Next)
    → TableAsText total bytes first behind
    → TablesAsText count (total + catalogue_words first.catalogue) behind others rest
    → TablesAsText (suc count) total bytes
    (record { catalogue = first.catalogue ++ others.catalogue; tables = first.tables ++ others.tables; next = next }) rest
unfolding pairs_ok catalogue_words
one_more_read count total bytes first behind others rest next t ts =
    let columns : ℕ = t.columns in
    let rows : ℕ = t.rows in
    let more : List ℕ = others.catalogue in
    let words : ℕ = columns * rows in
    let pair_words_lem : catalogue_words first.catalogue ≡ words + 0 = ap catalogue_words t.pair in
    let pair_length : length first.catalogue ≡ 2 = ap length t.pair in
    let all_words : catalogue_words (first.catalogue ++ more) ≡ words + catalogue_words more =
    ap (λ (front : List ℕ). catalogue_words (front ++ more)) t.pair
    in
    let head : List ℕ = line_text relation_key (columns ∷ rows ∷ []) ++ lines_text row_key columns rows first.tables in
    record {
      text =
          t.text
          ∙ ap (λ (tail : List ℕ). head ++ tail) ts.text
          ∙ sym (append_assoc head (tables_text more others.tables) rest)
          ∙ ap (λ (front : List ℕ). front ++ rest) (sym (tables_text_cons columns rows more first.tables others.tables t.many))
          ∙ ap (λ (front : List ℕ). tables_text (front ++ more) (first.tables ++ others.tables) ++ rest) (sym t.pair);
      ok = rw t.pair (and_both (pair_ok columns rows) (pairs_ok more) t.ok ts.ok);
      few = omega (arith, length-append first.catalogue more, ts.few);
      many = length-append first.tables others.tables ∙ omega (arith, t.many, ts.many);
      fits = λ h. omega (arith, ts.fits (omega (arith, t.fits)));
      words32 = words32_append first.tables others.tables t.words32 ts.words32;
    }

pub tables_of-text : (count total line : ℕ) (bytes : List ℕ) (after : ℕ) (rest : List ℕ) → (tables_of count total line bytes).next ≡ goes_on after rest
    → TablesAsText count total bytes (tables_of count total line bytes) rest
unfolding tables_of
tables_of-text zero total line bytes after rest e = no_tables_read zero total line bytes after rest e
tables_of-text (suc more) total line bytes after rest e =
    keyed (begins relation_key bytes) refl e
    (λ line' bytes' e'. tables_of-text more (total + catalogue_words (table_of total line bytes).catalogue) line' bytes' after rest e')
  where
    first : ReadTables
    first = table_of total line bytes

    then : ℕ → List ℕ → ReadTables
    then = λ line' bytes'. tables_of more (total + catalogue_words first.catalogue) line' bytes'

    Others : Type 0
    Others = (line' : ℕ) (bytes' : List ℕ) → (then line' bytes').next ≡ goes_on after rest
        → TablesAsText more (total + catalogue_words first.catalogue) bytes' (then line' bytes') rest

    go : begins relation_key bytes ≡ true → (next : Next) → first.next ≡ next
        → (tables_then first.catalogue first.tables next then).next ≡ goes_on after rest → Others
        → TablesAsText (suc more) total bytes (tables_then first.catalogue first.tables next then) rest
    go key (goes_on line' bytes') is e ih =
        one_more_read more total bytes first bytes' (then line' bytes') rest (then line' bytes').next
        (table_of-text total line bytes line' bytes' key is) (ih line' bytes' e)
    go key (wrong_at line') is e ih = no-next e

    keyed : (key : Bool) → begins relation_key bytes ≡ key
        → (cond key (and_tables first then) (no_tables (goes_on line bytes))).next ≡ goes_on after rest → Others
        → TablesAsText (suc more) total bytes (cond key (and_tables first then) (no_tables (goes_on line bytes))) rest
    keyed true is e ih = go is first.next refl e ih
    keyed false is e ih = no_tables_read (suc more) total line bytes after rest e

-- the words of the tables read are as many as their catalogue says
pub length-tables : (count total line : ℕ) (bytes : List ℕ) (after : ℕ) (rest : List ℕ) → (tables_of count total line bytes).next ≡ goes_on after rest
    → length (tables_of count total line bytes).tables ≡ catalogue_words (tables_of count total line bytes).catalogue
length-tables count total line bytes after rest e = (tables_of-text count total line bytes after rest e).many

-- Nodes.

-- `found` was read from all of `bytes`: 1 to `count` node lines, before the line `after` whose bytes are `rest`
pub record NodesAsText (count line : ℕ) (bytes : List ℕ) (found : Read) (after : ℕ) (rest : List ℕ) : Type 0 where
  pub nodes : ℕ
  pub ended : rest ≡ []
  pub some : 1 ≤ nodes
  pub few : nodes ≤ count
  pub many : length found.words ≡ nodes * question_node_words
  pub text : bytes ≡ lines_text node_key question_node_words nodes found.words
  pub words32 : Words32 found.words
  pub lines_read : after ≡ line + nodes

pub nodes_of-text : (count line : ℕ) (bytes : List ℕ) (after : ℕ) (rest : List ℕ) → (nodes_of count line bytes).next ≡ goes_on after rest
    → NodesAsText count line bytes (nodes_of count line bytes) after rest
unfolding nodes_of lines_text
nodes_of-text zero line bytes after rest e = no-next e
nodes_of-text (suc more) line bytes after rest e =
    go (keyed_line node_key question_node_words line bytes).next refl e (λ line' bytes' e'. nodes_of-text more line' bytes' after rest e')
  where
    ws : List ℕ
    ws = (keyed_line node_key question_node_words line bytes).words

    then : ℕ → List ℕ → Read
    then = λ line' bytes'. unless_ended line' bytes' (nodes_of more line' bytes')

    go : (next : Next) → (keyed_line node_key question_node_words line bytes).next ≡ next
        → (words_then ws next then).next ≡ goes_on after rest
        → ((line' : ℕ) (bytes' : List ℕ) → (nodes_of more line' bytes').next ≡ goes_on after rest
        → NodesAsText more line' bytes' (nodes_of more line' bytes') after rest)
        → NodesAsText (suc more) line bytes (words_then ws next then) after rest
    go (goes_on line' []) is e ih =
        let first : LinesAsText (λ words. line_text node_key words) question_node_words 1 line bytes (keyed_line node_key question_node_words line bytes) line' [] =
        keyed_line-text node_key question_node_words line bytes line' [] is
        in
        let line_is : line' ≡ after = cc in
        record {
          nodes = 1;
          ended = cc;
          some = omega arith;
          few = omega arith;
          many = ap length (append-nil ws) ∙ first.many;
          text = first.text ∙ sym (lines_text_cons node_key question_node_words 0 ws [] first.many);
          words32 = words32_append ws [] first.words32 tt;
          lines_read = omega (arith, first.lines_read);
        }
    go (goes_on line' (byte ∷ behind)) is e ih =
        let bytes' : List ℕ = byte ∷ behind in
        let first : LinesAsText (λ words. line_text node_key words) question_node_words 1 line bytes (keyed_line node_key question_node_words line bytes) line' bytes' =
        keyed_line-text node_key question_node_words line bytes line' bytes' is
        in
        let others : NodesAsText more line' bytes' (nodes_of more line' bytes') after rest = ih line' bytes' e in
        let vs : List ℕ = (nodes_of more line' bytes').words in
        record {
          nodes = suc others.nodes;
          ended = others.ended;
          some = omega arith;
          few = omega (arith, others.few);
          many = length-append ws vs ∙ omega (arith, first.many, others.many);
          text =
              first.text
              ∙ ap (λ (tail : List ℕ). line_text node_key ws ++ tail) others.text
              ∙ sym (lines_text_cons node_key question_node_words others.nodes ws vs first.many);
          words32 = words32_append ws vs first.words32 others.words32;
          lines_read = omega (arith, first.lines_read, others.lines_read);
        }
    go (wrong_at line') is e ih = no-next e

-- The whole.

tables_then_nodes : (mode : ℕ) (text bytes : List ℕ) (line : ℕ) (rest : List ℕ) → mode ≤ 1 → text ≡ mode_text mode ++ bytes → length text ≤ byte_limit
    → (with_tables mode (tables_of catalogue_pair_limit 0 2 bytes)).next ≡ goes_on line rest
    → BundleAsText text (with_tables mode (tables_of catalogue_pair_limit 0 2 bytes)) rest
unfolding bundle_text
tables_then_nodes mode text bytes line rest small is short e = go found.next refl e
  where
    found : ReadTables
    found = tables_of catalogue_pair_limit 0 2 bytes

    go : (next : Next) → found.next ≡ next → (nodes_after next).next ≡ goes_on line rest
        → BundleAsText text (with_tables mode found) rest
    go (goes_on line' bytes') stands e =
        let ts : TablesAsText catalogue_pair_limit 0 bytes found bytes' = tables_of-text catalogue_pair_limit 0 2 bytes line' bytes' stands in
        let ws : List ℕ = (nodes_of question_node_limit line' bytes').words in
        let ns : NodesAsText question_node_limit line' bytes' (nodes_of question_node_limit line' bytes') line rest = nodes_of-text question_node_limit line' bytes' line rest e in
        let count : length ws / question_node_words ≡ ns.nodes = omega (arith, ns.many) in
        let cs : List ℕ = found.catalogue in
        let tables_as : List ℕ = tables_text cs found.tables in
        rw stands
        (record {
          ended = ns.ended;
          text_is =
              append_assoc (mode_text mode) tables_as (lines_text node_key question_node_words (length ws / question_node_words) ws)
              ∙ ap (λ (k : ℕ). mode_text mode ++ (tables_as ++ lines_text node_key question_node_words k ws)) count
              ∙ ap (λ (tail : List ℕ). mode_text mode ++ (tables_as ++ tail)) (sym ns.text)
              ∙ ap (λ (tail : List ℕ). mode_text mode ++ tail) (sym ts.text)
              ∙ sym is;
          short-text = short;
          mode-number = small;
          tables_ok_lem =
              tables-good cs found.tables
              (record { few = ts.few; pairs = ts.ok; fits = omega (arith, ts.fits (omega arith)); sum = ts.many });
          nodes_ok_lem =
              nodes-good ws
              (record { whole = omega (arith, ns.many); some = omega (arith, ns.some); few = omega (arith, ns.few) });
          tables_32 = ts.words32;
          nodes_32 = ns.words32;
        })
    go (wrong_at line') stands e = no-next e

-- Whatever is read to its end is the text of what was found.
pub reading-text : (text : List ℕ) (line : ℕ) (rest : List ℕ) → (bundle_in text).next ≡ goes_on line rest → BundleAsText text (bundle_in text) rest
unfolding bundle_in lines_of
reading-text text line rest e = sized (ltb byte_limit (length text)) refl e
  where
    moded : (plain short : Bool) → begins plain_line text ≡ plain → begins short_line text ≡ short → length text ≤ byte_limit
        → (cond plain (with_tables 0 (tables_of catalogue_pair_limit 0 2 (drop (length plain_line) text)))
        (cond short (with_tables 1 (tables_of catalogue_pair_limit 0 2 (drop (length short_line) text))) (no_bundle 1))).next ≡ goes_on line rest
        → BundleAsText text
        (cond plain (with_tables 0 (tables_of catalogue_pair_limit 0 2 (drop (length plain_line) text)))
        (cond short (with_tables 1 (tables_of catalogue_pair_limit 0 2 (drop (length short_line) text))) (no_bundle 1))) rest
    moded true short p s fits e =
        tables_then_nodes 0 text (drop (length plain_line) text) line rest (omega arith) (begins-text plain_line text p) fits e
    moded false true p s fits e =
        tables_then_nodes 1 text (drop (length short_line) text) line rest (omega arith) (begins-text short_line text s) fits e
    moded false false p s fits e = no-next e

    sized : (over : Bool) → ltb byte_limit (length text) ≡ over → (cond over (no_bundle 0) (lines_of text)).next ≡ goes_on line rest
        → BundleAsText text (cond over (no_bundle 0) (lines_of text)) rest
    sized true is e = no-next e
    sized false is e =
        moded (begins plain_line text) (begins short_line text) refl refl (ltb-false byte_limit (length text) is) e
