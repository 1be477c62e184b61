-- The lines before a wrong one are those of some right text: what was read there, completed with zeros. Assumes nothing.
use Prim.Native.Nat.{ℕ, zero, suc, ◌+◌, ◌-◌, ◌*◌, ◌≤◌, ◌<◌}
use mathlib.Core.Path.{◌≡◌, refl, sym, ap, ◌∙◌}
use mathlib.Core.List.{List, [], ◌∷◌, ◌++◌, append_assoc}
use mathlib.Core.Bool.{Bool, true, false, cond}
use mathlib.Core.Logic.{◌⊎◌, inl, inr}
use native.Mathlib.Omega.{arith}
use native.Mathlib.Nat.{suc-mul, mul_comm}
use lib.Dec.{eqb}
use lib.ListN.{length, take, drop, length-drop, replicate, length-replicate, length-append}
use lib.Seq.{length-take-le}
use Rattle.relations.specs.Limits.{word_limit, question_node_words}
use Rattle.relations.proofs.BoolLaws.{true_or_false, and_both}
use Rattle.catalogue.specs.Judging.{pair_ok, pairs_ok, catalogue_words}
use Rattle.catalogue.proofs.Judgements.{good_pair}
use Rattle.lines.specs.Marks.{line_feed, separator, relation_key, row_key, node_key}
use Rattle.lines.specs.Writing.{decimal, numbers_text, line_text, lines_text}
use Rattle.bundles.specs.Writing.{tables_text}
use Rattle.lines.specs.Reading.{Next, goes_on, wrong_at, Read, words_then, begins, keyed_line, keyed_lines}
use Rattle.bundles.specs.Reading.{Relation, relation, no_relation, relation_of, ReadTables, no_tables, table_behind, table_of, tables_then, and_tables, tables_of, unless_ended, nodes_of}
use Rattle.lines.specs.Words32.{Words32}
use Rattle.bundles.specs.FirstWrong.{first_lines, ended_lines}
use Rattle.lines.proofs.Words32.{words32_append}
use Rattle.lines.proofs.ReadingLaws.{no-next, line_cut, LinesAsText, keyed_line-text, lines_text_cons, begins-text}
use Rattle.bundles.proofs.ReadingLaws.{RelationAsText, relation_of-text, TableAsText, table_of-text, tables_text_cons}
use Rattle.bundles.proofs.WritingLaws.{tables_at, table_of_of_text}
use Rattle.bundles.proofs.SameLines.{Same, same_none, left}

pub same_line : {a b : ℕ} → wrong_at a ≡ wrong_at b → a ≡ b
same_line e = cc

-- The same lines behind the same bytes.
same_cons : (byte k : ℕ) (xs ys : List ℕ) → Same (left byte k) xs ys → Same (suc k) (byte ∷ xs) (byte ∷ ys)
unfolding first_lines
same_cons byte k xs ys s = ap (λ (rest : List ℕ). byte ∷ rest) s

pub same_behind : (front : List ℕ) (k : ℕ) (xs ys : List ℕ) → Same k xs ys → Same (ended_lines front + k) (front ++ xs) (front ++ ys)
unfolding ended_lines
same_behind [] k xs ys s = let e : 0 + k ≡ k = omega arith in rw e s
same_behind (byte ∷ front) k xs ys s = go (true_or_false (eqb byte line_feed)) (ended_lines front + k) refl (same_behind front k xs ys s)
  where
    go : (eqb byte line_feed ≡ true) ⊎ (eqb byte line_feed ≡ false) → (m : ℕ) → m ≡ ended_lines front + k → Same (ended_lines front + k) (front ++ xs) (front ++ ys)
        → Same (cond (eqb byte line_feed) 1 0 + ended_lines front + k) (byte ∷ (front ++ xs)) (byte ∷ (front ++ ys))
    go (inl e) m is ih =
        let c : cond (eqb byte line_feed) 1 0 + ended_lines front + k ≡ suc (ended_lines front + k) = rw e (omega arith) in
        let l : left byte (ended_lines front + k) ≡ ended_lines front + k = rw e in
        rw c (same_cons byte (ended_lines front + k) (front ++ xs) (front ++ ys) (rw l ih))
    go (inr e) zero is ih =
        let c : cond (eqb byte line_feed) 1 0 + ended_lines front + k ≡ 0 = rw e (omega arith) in
        rw c (same_none (byte ∷ (front ++ xs)) (byte ∷ (front ++ ys)))
    go (inr e) (suc m) is ih =
        let c : cond (eqb byte line_feed) 1 0 + ended_lines front + k ≡ suc m = rw e (omega arith) in
        let l : left byte m ≡ suc m = rw e in
        rw c (same_cons byte m (front ++ xs) (front ++ ys) (rw (l, is) ih))

pub feeds_append : (xs ys : List ℕ) → ended_lines (xs ++ ys) ≡ ended_lines xs + ended_lines ys
unfolding ended_lines
feeds_append [] ys = omega arith
feeds_append (x ∷ xs) ys = omega (arith, feeds_append xs ys)

feeds_numbers : (words : List ℕ) (n : ℕ) → 1 ≤ ended_lines (numbers_text (n ∷ words))
unfolding ended_lines numbers_text
feeds_numbers [] n = omega (arith, feeds_append (decimal n) (line_feed ∷ []))
feeds_numbers (word ∷ words) n =
    omega (arith, feeds_append (decimal n) (separator (length (word ∷ words)) ∷ numbers_text (word ∷ words)), feeds_numbers words word)

feeds_line : (key words : List ℕ) → 1 ≤ length words → 1 ≤ ended_lines (line_text key words)
feeds_line key [] h = absurd (omega arith)
feeds_line key (n ∷ words) h = omega (arith, feeds_append key (numbers_text (n ∷ words)), feeds_numbers words n)

-- fewer of the same lines
pub same_less : (xs ys : List ℕ) (m n : ℕ) → m ≤ n → Same n xs ys → Same m xs ys
unfolding first_lines
same_less [] [] m n h s = refl
same_less [] (y ∷ ys) zero n h s = refl
same_less [] (y ∷ ys) (suc m) zero h s = absurd (omega arith)
same_less [] (y ∷ ys) (suc m) (suc n) h s = let z : length {A = ℕ} [] ≡ length (y ∷ first_lines (left y n) ys) = ap (λ (l : List ℕ). length l) s in absurd (omega arith)
same_less (x ∷ xs) [] zero n h s = refl
same_less (x ∷ xs) [] (suc m) zero h s = absurd (omega arith)
same_less (x ∷ xs) [] (suc m) (suc n) h s = let z : length (x ∷ first_lines (left x n) xs) ≡ length {A = ℕ} [] = ap (λ (l : List ℕ). length l) s in absurd (omega arith)
same_less (x ∷ xs) (y ∷ ys) zero n h s = refl
same_less (x ∷ xs) (y ∷ ys) (suc m) zero h s = absurd (omega arith)
same_less (x ∷ xs) (y ∷ ys) (suc m) (suc n) h s =
    let b : y ≡ x = cc in
    let t : first_lines (left x n) xs ≡ first_lines (left y n) ys = cc in
    let u : Same (left x n) xs ys = t ∙ ap (λ (c : ℕ). first_lines (left c n) ys) b in
    rw b (same_cons x m xs ys (same_less xs ys (left x m) (left x n) (fewer (eqb x line_feed)) u))
  where
    fewer : (feed : Bool) → cond feed m (suc m) ≤ cond feed n (suc n)
    fewer true = omega arith
    fewer false = omega arith

-- the lines of a part that is behind a front, counted from the front's first line
pub same_from : (front : List ℕ) (line after place : ℕ) (bytes other xs ys : List ℕ) → bytes ≡ front ++ xs → other ≡ front ++ ys → after ≤ line + ended_lines front → Same (place - after) xs ys → Same (place - line) bytes other
same_from front line after place bytes other xs ys p q h s =
    rw (p, q) (same_less (front ++ xs) (front ++ ys) (place - line) (ended_lines front + (place - after)) (omega arith) (same_behind front (place - after) xs ys s))

-- Words that are all 0.
pub zeros_32 : (count : ℕ) → Words32 (replicate count 0)
zeros_32 zero = tt
zeros_32 (suc count) = (omega arith, zeros_32 count)

-- Lines.
pub record LinesCompleted (key : List ℕ) (width count line : ℕ) (bytes : List ℕ) (place : ℕ) : Type 0 where
  pub words : List ℕ
  pub many : length words ≡ count * width
  pub words32 : Words32 words
  pub same : (tail : List ℕ) → Same (place - line) bytes (lines_text key width count words ++ tail)

-- where the first line is the wrong one nothing stands before it
pub at_once : (place line : ℕ) (xs ys : List ℕ) → place ≡ line → Same (place - line) xs ys
at_once place line xs ys e = let z : place - line ≡ 0 = omega arith in rw z (same_none xs ys)

keyed_lines_completed : (key : List ℕ) (more count line : ℕ) (bytes : List ℕ) (place : ℕ) → (keyed_lines key (suc more) count line bytes).next ≡ wrong_at place → LinesCompleted key (suc more) count line bytes place
unfolding keyed_lines
keyed_lines_completed key more zero line bytes place e = no-next (sym e)
keyed_lines_completed key more (suc count) line bytes place e =
    go (keyed_line key (suc more) line bytes).next refl e (λ after rest f. keyed_lines_completed key more count after rest place f)
  where
    width : ℕ
    width = suc more

    ws : List ℕ
    ws = (keyed_line key width line bytes).words

    lines : ℕ → List ℕ → Read
    lines = λ after rest. keyed_lines key width count after rest

    go : (next : Next) → (keyed_line key width line bytes).next ≡ next → (words_then ws next lines).next ≡ wrong_at place
        → ((after : ℕ) (rest : List ℕ) → (lines after rest).next ≡ wrong_at place → LinesCompleted key width count after rest place) → LinesCompleted key width (suc count) line bytes place
    go (wrong_at after) is e k =
        record {
          words = replicate (suc count * width) 0;
          many = length-replicate {A = ℕ} (suc count * width) 0;
          words32 = zeros_32 (suc count * width);
          same = λ tail. at_once place line bytes (lines_text key width (suc count) (replicate (suc count * width) 0) ++ tail) (sym (same_line e) ∙ (line_cut key width line bytes (omega arith) is).0);
        }
    go (goes_on after rest) is e k =
        let first : LinesAsText (λ words. line_text key words) width 1 line bytes (keyed_line key width line bytes) after rest = keyed_line-text key width line bytes after rest is in
        let others : LinesCompleted key width count after rest place = k after rest e in
        let vs : List ℕ = others.words in
        record {
          words = ws ++ vs;
          many = omega (arith, length-append ws vs, suc-mul count width, first.many, others.many);
          words32 = words32_append ws vs first.words32 others.words32;
          same = λ tail.
              same_from (line_text key ws) line after place bytes (lines_text key width (suc count) (ws ++ vs) ++ tail) rest (lines_text key width count vs ++ tail) first.text
              (ap (λ (front : List ℕ). front ++ tail) (lines_text_cons key width count ws vs first.many) ∙ append_assoc (line_text key ws) (lines_text key width count vs) tail)
              (omega (arith, first.lines_read, feeds_line key ws (omega (arith, first.many)))) (others.same tail);
        }

-- Tables.
pub record TablesCompleted (count total line : ℕ) (bytes : List ℕ) (place : ℕ) : Type 0 where
  pub catalogue : List ℕ
  pub tables : List ℕ
  pub ok : pairs_ok catalogue ≡ true
  pub few : length catalogue ≤ 2 * count
  pub many : length tables ≡ catalogue_words catalogue
  pub fits : total ≤ word_limit → total + catalogue_words catalogue ≤ word_limit
  pub words32 : Words32 tables
  pub same : (tail : List ℕ) → Same (place - line) bytes (tables_text catalogue tables ++ tail)

none_completed : (count total line : ℕ) (bytes : List ℕ) (place : ℕ) → place ≡ line → TablesCompleted count total line bytes place
unfolding pairs_ok catalogue_words
none_completed count total line bytes place e =
    record { catalogue = []; tables = []; ok = refl; few = omega arith; many = refl; fits = λ h. omega arith; words32 = tt; same = λ tail. at_once place line bytes (tables_text [] [] ++ tail) e }

-- one table, whose words are `words`, before others
one_table : (count total line after : ℕ) (bytes rest : List ℕ) (place columns rows : ℕ) (words : List ℕ) → pair_ok columns rows ≡ true → total + columns * rows ≤ word_limit → length words ≡ columns * rows → Words32 words
    → (others : TablesCompleted count (total + columns * rows) after rest place)
    → ((tail : List ℕ) → Same (place - line) bytes ((line_text relation_key (columns ∷ rows ∷ []) ++ lines_text row_key columns rows words) ++ (tables_text others.catalogue others.tables ++ tail)))
    → TablesCompleted (suc count) total line bytes place
unfolding pairs_ok catalogue_words
one_table count total line after bytes rest place columns rows words ok fits many h others same =
    let head : List ℕ = line_text relation_key (columns ∷ rows ∷ []) ++ lines_text row_key columns rows words in
    record {
      catalogue = columns ∷ rows ∷ others.catalogue;
      tables = words ++ others.tables;
      ok = and_both (pair_ok columns rows) (pairs_ok others.catalogue) ok others.ok;
      few = omega (arith, others.few);
      many = length-append words others.tables ∙ omega (arith, many, others.many);
      fits = λ l. omega (arith, others.fits fits);
      words32 = words32_append words others.tables h others.words32;
      same = λ tail.
          same tail ∙ ap (λ (text : List ℕ). first_lines (place - line) text)
          (sym (ap (λ (front : List ℕ). front ++ tail) (tables_text_cons columns rows others.catalogue words others.tables many) ∙ append_assoc head (tables_text others.catalogue others.tables) tail));
    }

-- a table that is wrong
table_completed : (count total line : ℕ) (bytes : List ℕ) (place : ℕ) → begins relation_key bytes ≡ true → (table_of total line bytes).next ≡ wrong_at place → TablesCompleted (suc count) total line bytes place
unfolding table_of none_completed
table_completed count total line bytes place key e = go (relation_of total behind) refl e
  where
    behind : List ℕ
    behind = drop (length relation_key) bytes

    go : (found : Relation) → relation_of total behind ≡ found → (table_behind line found).next ≡ wrong_at place → TablesCompleted (suc count) total line bytes place
    go no_relation is e = none_completed (suc count) total line bytes place (sym (same_line e))
    go (relation columns rows rowBytes) is e = rowed columns (relation_of-text total behind columns rows rowBytes is) e
      where
        rowed : (columns : ℕ) → RelationAsText total behind columns rows rowBytes → (keyed_lines row_key columns rows (line + 1) rowBytes).next ≡ wrong_at place → TablesCompleted (suc count) total line bytes place
        rowed zero head e = absurd (omega (arith, (good_pair zero rows head.ok).some))
        rowed (suc more) head e =
            let L : LinesCompleted row_key (suc more) rows (line + 1) rowBytes place = keyed_lines_completed row_key more rows (line + 1) rowBytes place e in
            let names : List ℕ = line_text relation_key (suc more ∷ rows ∷ []) in
            let body : List ℕ = lines_text row_key (suc more) rows L.words in
            let none : TablesCompleted count (total + suc more * rows) place [] place = none_completed count (total + suc more * rows) place [] place refl in
            one_table count total line place bytes [] place (suc more) rows L.words head.ok head.fits (L.many ∙ mul_comm rows (suc more)) L.words32 none
            (λ tail.
            same_from names line (line + 1) place bytes ((names ++ body) ++ (tables_text [] [] ++ tail)) rowBytes (body ++ (tables_text [] [] ++ tail))
            (begins-text relation_key bytes key ∙ ap (λ (text : List ℕ). relation_key ++ text) head.text ∙ sym (append_assoc relation_key (numbers_text (suc more ∷ rows ∷ [])) rowBytes))
            (append_assoc names body (tables_text [] [] ++ tail))
            (omega (arith, feeds_line relation_key (suc more ∷ rows ∷ []) (omega arith))) (L.same (tables_text [] [] ++ tail)))

-- lines of words, and of tables
feeds_lines : (key : List ℕ) (more count : ℕ) (words : List ℕ) → length words ≡ count * suc more → count ≤ ended_lines (lines_text key (suc more) count words)
unfolding lines_text
feeds_lines key more zero words many = omega arith
feeds_lines key more (suc count) words many =
    let size : length words ≡ count * suc more + suc more = many ∙ suc-mul count (suc more) in
    let first : List ℕ = take (suc more) words in
    let others : List ℕ = drop (suc more) words in
    omega (
      arith,
      feeds_append (line_text key first) (lines_text key (suc more) count others),
      feeds_line key first (omega (arith, length-take-le (suc more) words (omega arith))),
      feeds_lines key more count others (length-drop (suc more) words ∙ omega arith),
    )

-- a table that was read: where it ends
table_after : (total line : ℕ) (bytes : List ℕ) (after : ℕ) (rest : List ℕ) (t : TableAsText total bytes (table_of total line bytes) rest) → (table_of total line bytes).next ≡ goes_on after rest → after ≡ line + 1 + t.rows
table_after total line bytes after rest t e =
    let found : table_of total line bytes ≡ tables_at (t.columns ∷ t.rows ∷ []) (table_of total line bytes).tables (line + 1 + t.rows) rest =
    ap (λ (text : List ℕ). table_of total line text) t.text ∙ table_of_of_text total line t.columns t.rows (table_of total line bytes).tables rest t.ok t.fits t.many t.words32 in
    let next : goes_on after rest ≡ goes_on (line + 1 + t.rows) rest = sym e ∙ ap (λ (ts : ReadTables). ts.next) found in
    cc

table_feeds : (total line : ℕ) (bytes : List ℕ) (after : ℕ) (rest : List ℕ) (t : TableAsText total bytes (table_of total line bytes) rest) → (table_of total line bytes).next ≡ goes_on after rest
    → after ≤ line + ended_lines (line_text relation_key (t.columns ∷ t.rows ∷ []) ++ lines_text row_key t.columns t.rows (table_of total line bytes).tables)
table_feeds total line bytes after rest t e =
    let words : List ℕ = (table_of total line bytes).tables in
    go t.columns (good_pair t.columns t.rows t.ok).some t.many
  where
    go : (columns : ℕ) → 1 ≤ columns → length (table_of total line bytes).tables ≡ columns * t.rows → after ≤ line + ended_lines (line_text relation_key (columns ∷ t.rows ∷ []) ++ lines_text row_key columns t.rows (table_of total line bytes).tables)
    go zero h many = absurd (omega arith)
    go (suc more) h many =
        omega (
          arith,
          table_after total line bytes after rest t e,
          feeds_append (line_text relation_key (suc more ∷ t.rows ∷ [])) (lines_text row_key (suc more) t.rows (table_of total line bytes).tables),
          feeds_line relation_key (suc more ∷ t.rows ∷ []) (omega arith),
          feeds_lines row_key more t.rows (table_of total line bytes).tables (many ∙ mul_comm (suc more) t.rows),
        )

pair_words_lem : (total : ℕ) (catalogue : List ℕ) (columns rows : ℕ) → catalogue ≡ columns ∷ rows ∷ [] → total + catalogue_words catalogue ≡ total + columns * rows
unfolding catalogue_words
pair_words_lem total catalogue columns rows e = rw e (omega arith)

pub tables_of_completed : (count total line : ℕ) (bytes : List ℕ) (place : ℕ) → (tables_of count total line bytes).next ≡ wrong_at place → TablesCompleted count total line bytes place
unfolding tables_of
tables_of_completed zero total line bytes place e = no-next (sym e)
tables_of_completed (suc more) total line bytes place e =
    keyed (begins relation_key bytes) refl e (λ words after rest f. tables_of_completed more words after rest place f)
  where
    first : ReadTables
    first = table_of total line bytes

    then : ℕ → List ℕ → ReadTables
    then = λ after rest. tables_of more (total + catalogue_words first.catalogue) after rest

    Others : Type 0
    Others = (words after : ℕ) (rest : List ℕ) → (tables_of more words after rest).next ≡ wrong_at place → TablesCompleted more words after rest place

    go : begins relation_key bytes ≡ true → (next : Next) → first.next ≡ next → (tables_then first.catalogue first.tables next then).next ≡ wrong_at place → Others → TablesCompleted (suc more) total line bytes place
    go key (goes_on after rest) is e k =
        let t : TableAsText total bytes first rest = table_of-text total line bytes after rest key is in
        let C : TablesCompleted more (total + t.columns * t.rows) after rest place = rw (pair_words_lem total first.catalogue t.columns t.rows t.pair) at (k (total + catalogue_words first.catalogue) after rest e) in
        let head : List ℕ = line_text relation_key (t.columns ∷ t.rows ∷ []) ++ lines_text row_key t.columns t.rows first.tables in
        one_table more total line after bytes rest place t.columns t.rows first.tables t.ok t.fits t.many t.words32 C
        (λ tail.
        same_from head line after place bytes (head ++ (tables_text C.catalogue C.tables ++ tail)) rest (tables_text C.catalogue C.tables ++ tail) t.text refl
        (table_feeds total line bytes after rest t is) (C.same tail))
    go key (wrong_at after) is e k = table_completed more total line bytes place key (is ∙ e)

    keyed : (key : Bool) → begins relation_key bytes ≡ key → (cond key (and_tables first then) (no_tables (goes_on line bytes))).next ≡ wrong_at place → Others → TablesCompleted (suc more) total line bytes place
    keyed true is e k = go is first.next refl e k
    keyed false is e k = no-next (sym e)

-- tables that were read: where they end
pub tables_feeds : (count total line : ℕ) (bytes : List ℕ) (after : ℕ) (rest : List ℕ) → (tables_of count total line bytes).next ≡ goes_on after rest
    → after ≤ line + ended_lines (tables_text (tables_of count total line bytes).catalogue (tables_of count total line bytes).tables)
unfolding tables_of
tables_feeds zero total line bytes after rest e = let same : line ≡ after = cc in omega arith
tables_feeds (suc more) total line bytes after rest e =
    keyed (begins relation_key bytes) refl e (λ words line' bytes' f. tables_feeds more words line' bytes' after rest f)
  where
    first : ReadTables
    first = table_of total line bytes

    then : ℕ → List ℕ → ReadTables
    then = λ line' bytes'. tables_of more (total + catalogue_words first.catalogue) line' bytes'

    Others : Type 0
    Others = (words line' : ℕ) (bytes' : List ℕ) → (tables_of more words line' bytes').next ≡ goes_on after rest → after ≤ line' + ended_lines (tables_text (tables_of more words line' bytes').catalogue (tables_of more words line' bytes').tables)

    go : begins relation_key bytes ≡ true → (next : Next) → first.next ≡ next → (tables_then first.catalogue first.tables next then).next ≡ goes_on after rest → Others
        → after ≤ line + ended_lines (tables_text (tables_then first.catalogue first.tables next then).catalogue (tables_then first.catalogue first.tables next then).tables)
    go key (goes_on line' bytes') is e k =
        let t : TableAsText total bytes first bytes' = table_of-text total line bytes line' bytes' key is in
        let others : ReadTables = then line' bytes' in
        let head : List ℕ = line_text relation_key (t.columns ∷ t.rows ∷ []) ++ lines_text row_key t.columns t.rows first.tables in
        let text : tables_text (first.catalogue ++ others.catalogue) (first.tables ++ others.tables) ≡ head ++ tables_text others.catalogue others.tables =
        ap (λ (front : List ℕ). tables_text (front ++ others.catalogue) (first.tables ++ others.tables)) t.pair
        ∙ tables_text_cons t.columns t.rows others.catalogue first.tables others.tables t.many in
        omega (
          arith,
          ap (λ (bytes : List ℕ). ended_lines bytes) text,
          feeds_append head (tables_text others.catalogue others.tables),
          table_feeds total line bytes line' bytes' t is,
          k (total + catalogue_words first.catalogue) line' bytes' e,
        )
    go key (wrong_at line') is e k = no-next e

    keyed : (key : Bool) → begins relation_key bytes ≡ key → (cond key (and_tables first then) (no_tables (goes_on line bytes))).next ≡ goes_on after rest → Others
        → after ≤ line + ended_lines (tables_text (cond key (and_tables first then) (no_tables (goes_on line bytes))).catalogue (cond key (and_tables first then) (no_tables (goes_on line bytes))).tables)
    keyed true is e k = go is first.next refl e k
    keyed false is e k = let same : line ≡ after = cc in omega arith

-- Nodes.
pub record NodesCompleted (count line : ℕ) (bytes : List ℕ) (place : ℕ) : Type 0 where
  pub nodes : ℕ
  pub words : List ℕ
  pub few : nodes ≤ count
  pub some : 1 ≤ count → 1 ≤ nodes
  pub many : length words ≡ nodes * question_node_words
  pub words32 : Words32 words
  pub same : Same (place - line) bytes (lines_text node_key question_node_words nodes words)

pub nodes_of_completed : (count line : ℕ) (bytes : List ℕ) (place : ℕ) → (nodes_of count line bytes).next ≡ wrong_at place → NodesCompleted count line bytes place
unfolding nodes_of
nodes_of_completed zero line bytes place e =
    record { nodes = 0; words = []; few = omega arith; some = λ h. h; many = refl; words32 = tt; same = at_once place line bytes (lines_text node_key question_node_words 0 []) (sym (same_line e)) }
nodes_of_completed (suc more) line bytes place e =
    go (keyed_line node_key question_node_words line bytes).next refl e (λ after rest f. nodes_of_completed more after rest place f)
  where
    ws : List ℕ
    ws = (keyed_line node_key question_node_words line bytes).words

    then : ℕ → List ℕ → Read
    then = λ after rest. unless_ended after rest (nodes_of more after rest)

    go : (next : Next) → (keyed_line node_key question_node_words line bytes).next ≡ next → (words_then ws next then).next ≡ wrong_at place
        → ((after : ℕ) (rest : List ℕ) → (nodes_of more after rest).next ≡ wrong_at place → NodesCompleted more after rest place) → NodesCompleted (suc more) line bytes place
    go (wrong_at after) is e k =
        record {
          nodes = 1;
          words = replicate question_node_words 0;
          few = omega arith;
          some = λ h. omega arith;
          many = length-replicate {A = ℕ} question_node_words 0;
          words32 = zeros_32 question_node_words;
          same = at_once place line bytes (lines_text node_key question_node_words 1 (replicate question_node_words 0)) (sym (same_line e) ∙ (line_cut node_key question_node_words line bytes (omega arith) is).0);
        }
    go (goes_on after []) is e k = no-next (sym e)
    go (goes_on after (byte ∷ rest)) is e k =
        let first : LinesAsText (λ words. line_text node_key words) question_node_words 1 line bytes (keyed_line node_key question_node_words line bytes) after (byte ∷ rest) = keyed_line-text node_key question_node_words line bytes after (byte ∷ rest) is in
        let others : NodesCompleted more after (byte ∷ rest) place = k after (byte ∷ rest) e in
        let vs : List ℕ = others.words in
        record {
          nodes = suc others.nodes;
          words = ws ++ vs;
          few = omega (arith, others.few);
          some = λ h. omega arith;
          many = omega (arith, length-append ws vs, first.many, others.many);
          words32 = words32_append ws vs first.words32 others.words32;
          same =
              same_from (line_text node_key ws) line after place bytes (lines_text node_key question_node_words (suc others.nodes) (ws ++ vs)) (byte ∷ rest) (lines_text node_key question_node_words others.nodes vs) first.text
              (lines_text_cons node_key question_node_words others.nodes ws vs first.many) (omega (arith, first.lines_read, feeds_line node_key ws (omega (arith, first.many)))) others.same;
        }

-- where there are fewer LFs than lines, the lines are the whole text
pub same_all : (xs ys : List ℕ) (k : ℕ) → ended_lines xs < k → Same k xs ys → xs ≡ ys
unfolding ended_lines first_lines
same_all [] [] k h s = refl
same_all [] (y ∷ ys) zero h s = absurd (omega arith)
same_all [] (y ∷ ys) (suc k) h s = let z : length {A = ℕ} [] ≡ length (y ∷ first_lines (left y k) ys) = ap (λ (l : List ℕ). length l) s in absurd (omega arith)
same_all (x ∷ xs) [] zero h s = absurd (omega arith)
same_all (x ∷ xs) [] (suc k) h s = let z : length (x ∷ first_lines (left x k) xs) ≡ length {A = ℕ} [] = ap (λ (l : List ℕ). length l) s in absurd (omega arith)
same_all (x ∷ xs) (y ∷ ys) zero h s = absurd (omega arith)
same_all (x ∷ xs) (y ∷ ys) (suc k) h s =
    let b : y ≡ x = cc in
    let t : first_lines (left x k) xs ≡ first_lines (left y k) ys = cc in
    let u : Same (left x k) xs ys = t ∙ ap (λ (c : ℕ). first_lines (left c k) ys) b in
    rw b (ap (λ (rest : List ℕ). x ∷ rest) (same_all xs ys (left x k) (fewer (eqb x line_feed) h) u))
  where
    fewer : (feed : Bool) → cond feed 1 0 + ended_lines xs < suc k → ended_lines xs < cond feed k (suc k)
    fewer true h = omega arith
    fewer false h = omega arith
