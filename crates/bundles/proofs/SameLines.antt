-- What a reading says of a line depends on no later one: two texts with the same first lines are read alike up to there. Assumes nothing.
use Prim.Native.Nat.{ℕ, zero, suc, ◌+◌, ◌-◌, ◌*◌, ◌≤◌, ◌<◌}
use mathlib.Core.Path.{◌≡◌, refl, sym, ap, ◌∙◌}
use mathlib.Core.List.{List, [], ◌∷◌}
use mathlib.Core.Bool.{Bool, true, false, cond, ◌&&◌}
use mathlib.Core.Logic.{◌⊎◌, inl, inr}
use native.Mathlib.Omega.{arith}
use lib.ListN.{length, drop}
use lib.Dec.{leb, ltb, eqb}
use borrow.Author.Tests.{ltb-true, ltb-false, leb-true, eqb-true, ne_eqb}
use Rattle.relations.specs.Limits.{catalogue_pair_limit, word_limit, question_node_limit, question_node_words, greatest_number}
use Rattle.relations.proofs.BoolLaws.{true_or_false, and_left}
use Rattle.catalogue.specs.Judging.{pair_ok, catalogue_words}
use Rattle.lines.specs.Marks.{line_feed, space, zero_digit, digit, separator, plain_line, short_line, relation_key, row_key, node_key}
use Rattle.lines.specs.Reading.{Number, value, no_number, more_digits, number, ended_by, number_then, Next, goes_on, wrong_at, Read, nothing, words_then, or_wrong, numbers, begins, keyed_line, keyed_lines}
use Rattle.bundles.specs.Reading.{Relation, relation, no_relation, with_rows, with_columns, relation_of, ReadTables, no_tables, table_behind, table_of, tables_then, tables_of, unless_ended, nodes_of, nodes_after, with_tables, lines_of}
use Rattle.bundles.specs.FirstWrong.{first_lines}
use Rattle.bundles.proofs.LineNumbers.{line_of}

-- the same first lines
abbrev pub Same : ℕ → List ℕ → List ℕ → Type 0
Same count xs ys = first_lines count xs ≡ first_lines count ys

-- a byte of them, and the lines left behind it
abbrev pub left : ℕ → ℕ → ℕ
left byte more = cond (eqb byte line_feed) more (suc more)

pub same_none : (xs ys : List ℕ) → Same 0 xs ys
unfolding first_lines
same_none [] [] = refl
same_none [] (y ∷ ys) = refl
same_none (x ∷ xs) [] = refl
same_none (x ∷ xs) (y ∷ ys) = refl

no_byte {ℓ} : {C : Type ℓ} {x : ℕ} {xs : List ℕ} → [] ≡ x ∷ xs → C
no_byte {x = x} {xs = xs} e = let z : length {A = ℕ} [] ≡ length (x ∷ xs) = ap (λ (l : List ℕ). length l) e in absurd (omega arith)

same_byte : (k x y : ℕ) (xs ys : List ℕ) → Same (suc k) (x ∷ xs) (y ∷ ys) → y ≡ x
unfolding first_lines
same_byte k x y xs ys e = cc

same_rest : (k x y : ℕ) (xs ys : List ℕ) → Same (suc k) (x ∷ xs) (y ∷ ys) → Same (left x k) xs ys
unfolding first_lines
same_rest k x y xs ys e =
    let b : y ≡ x = cc in
    let t : first_lines (left x k) xs ≡ first_lines (left y k) ys = cc in
    t ∙ ap (λ (c : ℕ). first_lines (left c k) ys) b

-- Numbers.
data NumberSame (k : ℕ) : Number → Number → Type 0 where
  both_value : {n : ℕ} {xs ys : List ℕ} → Same k xs ys → NumberSame k (value n xs) (value n ys)
  neither : NumberSame k no_number no_number

digit_no_feed : (byte : ℕ) → digit byte ≡ true → eqb byte line_feed ≡ false
digit_no_feed byte e = ne_eqb byte line_feed (λ q. let l : zero_digit ≤ byte = leb-true zero_digit byte (and_left (leb zero_digit byte) (leb byte 57) e) in omega (arith, q, l))

more_digits_same : (xs ys : List ℕ) (n k : ℕ) → Same (suc k) xs ys → NumberSame (suc k) (more_digits n xs) (more_digits n ys)
unfolding more_digits first_lines
more_digits_same [] [] n k s = both_value s
more_digits_same [] (y ∷ ys) n k s = no_byte s
more_digits_same (x ∷ xs) [] n k s = no_byte (sym s)
more_digits_same (x ∷ xs) (y ∷ ys) n k s = rw (same_byte k x y xs ys s) (go (true_or_false (digit x)) (λ m t. more_digits_same xs ys m k t))
  where
    next : ℕ
    next = n * 10 + (x - zero_digit)

    short : (b : Bool) → NumberSame (suc k) (more_digits next xs) (more_digits next ys) → NumberSame (suc k) (cond b (more_digits next xs) no_number) (cond b (more_digits next ys) no_number)
    short true h = h
    short false h = neither

    go : (digit x ≡ true) ⊎ (digit x ≡ false) → ((m : ℕ) → Same (suc k) xs ys → NumberSame (suc k) (more_digits m xs) (more_digits m ys))
        → NumberSame (suc k) (cond (digit x) (cond (leb next greatest_number) (more_digits next xs) no_number) (value n (x ∷ xs))) (cond (digit x) (cond (leb next greatest_number) (more_digits next ys) no_number) (value n (x ∷ ys)))
    go (inl e) ih =
        let t : Same (left x k) xs ys = same_rest k x y xs ys s in
        let u : Same (suc k) xs ys = rw (digit_no_feed x e) at t in
        rw e (short (leb next greatest_number) (ih next u))
    go (inr e) ih = rw e (both_value (rw (same_byte k x y xs ys s) at s))

number_same : (xs ys : List ℕ) (k : ℕ) → Same (suc k) xs ys → NumberSame (suc k) (number xs) (number ys)
unfolding number first_lines
number_same [] [] k s = neither
number_same [] (y ∷ ys) k s = no_byte s
number_same (x ∷ xs) [] k s = no_byte (sym s)
number_same (x ∷ xs) (y ∷ ys) k s = rw (same_byte k x y xs ys s) (go (true_or_false (eqb x zero_digit)) (true_or_false (digit x)))
  where
    rest : eqb x line_feed ≡ false → Same (suc k) xs ys
    rest e = let t : Same (left x k) xs ys = same_rest k x y xs ys s in rw e at t

    go : (eqb x zero_digit ≡ true) ⊎ (eqb x zero_digit ≡ false) → (digit x ≡ true) ⊎ (digit x ≡ false)
        → NumberSame (suc k) (cond (eqb x zero_digit) (value 0 xs) (cond (digit x) (more_digits (x - zero_digit) xs) no_number)) (cond (eqb x zero_digit) (value 0 ys) (cond (digit x) (more_digits (x - zero_digit) ys) no_number))
    go (inl e) q = rw e (both_value (rest (ne_eqb x line_feed (λ f. omega (arith, f, eqb-true x zero_digit e)))))
    go (inr e) (inl d) = rw (e, d) (more_digits_same xs ys (x - zero_digit) k (rest (digit_no_feed x d)))
    go (inr e) (inr d) = rw (e, d) neither

ended_same : (end k : ℕ) {a b : Number} → NumberSame (suc k) a b → NumberSame (left end k) (ended_by end a) (ended_by end b)
unfolding first_lines
ended_same end k (both_value {xs = []} {ys = []} s) = neither
ended_same end k (both_value {xs = []} {ys = y ∷ ys} s) = no_byte s
ended_same end k (both_value {xs = x ∷ xs} {ys = []} s) = no_byte (sym s)
ended_same end k (both_value {n = n} {xs = x ∷ xs} {ys = y ∷ ys} s) = rw (same_byte k x y xs ys s) (go (true_or_false (eqb x end)))
  where
    go : (eqb x end ≡ true) ⊎ (eqb x end ≡ false) → NumberSame (left end k) (cond (eqb x end) (value n xs) no_number) (cond (eqb x end) (value n ys) no_number)
    go (inl e) = let t : Same (left x k) xs ys = same_rest k x y xs ys s in rw e (both_value (rw (eqb-true x end e) at t))
    go (inr e) = rw e neither
ended_same end k neither = neither

number_then_same : (end k : ℕ) (xs ys : List ℕ) → Same (suc k) xs ys → NumberSame (left end k) (number_then end xs) (number_then end ys)
number_then_same end k xs ys s = ended_same end k (number_same xs ys k s)

-- One line.
pub data NextSame (k line : ℕ) : Next → Next → Type 0 where
  both_on : {xs ys : List ℕ} → Same k xs ys → NextSame k line (goes_on (line + 1) xs) (goes_on (line + 1) ys)
  both_wrong : NextSame k line (wrong_at line) (wrong_at line)

numbers_same : (more line k : ℕ) (xs ys : List ℕ) → Same (suc k) xs ys → NextSame k line (numbers (suc more) line xs).next (numbers (suc more) line ys).next
unfolding numbers
numbers_same zero line k xs ys s = go (number_then_same line_feed k xs ys s)
  where
    go : {a b : Number} → NumberSame k a b → NextSame k line (or_wrong line a (λ n rest. numbers zero line rest)).next (or_wrong line b (λ n rest. numbers zero line rest)).next
    go (both_value t) = both_on t
    go neither = both_wrong
numbers_same (suc more) line k xs ys s =
    let e : separator (suc more) ≡ space = rw (ne_eqb (suc more) 0 (λ q. omega arith)) in
    rw e (go (number_then_same space k xs ys s) (λ us vs t. numbers_same more line k us vs t))
  where
    go : {a b : Number} → NumberSame (suc k) a b → ((us vs : List ℕ) → Same (suc k) us vs → NextSame k line (numbers (suc more) line us).next (numbers (suc more) line vs).next)
        → NextSame k line (or_wrong line a (λ n rest. numbers (suc more) line rest)).next (or_wrong line b (λ n rest. numbers (suc more) line rest)).next
    go (both_value {xs = us} {ys = vs} t) ih = ih us vs t
    go neither ih = both_wrong

-- A key: its bytes stand on so many lines, and leave so many.
abbrev Within : List ℕ → ℕ → Type 0
Within [] k = Unit {0}
Within (b ∷ key) zero = ⊥
Within (b ∷ key) (suc k) = Within key (left b k)

abbrev left_by : List ℕ → ℕ → ℕ
left_by [] k = k
left_by (b ∷ key) zero = 0
left_by (b ∷ key) (suc k) = left_by key (left b k)

data KeySame (key : List ℕ) (k : ℕ) (xs ys : List ℕ) : Type 0 where
  both_begin : begins key xs ≡ true → begins key ys ≡ true → Same (left_by key k) (drop (length key) xs) (drop (length key) ys) → KeySame key k xs ys
  both_not : begins key xs ≡ false → begins key ys ≡ false → KeySame key k xs ys

begins_same : (key : List ℕ) (k : ℕ) (xs ys : List ℕ) → Within key k → Same k xs ys → KeySame key k xs ys
unfolding begins first_lines
begins_same [] k xs ys w s = both_begin refl refl s
begins_same (b ∷ key) zero xs ys w s = absurd w
begins_same (b ∷ key) (suc k) [] [] w s = both_not refl refl
begins_same (b ∷ key) (suc k) [] (y ∷ ys) w s = no_byte s
begins_same (b ∷ key) (suc k) (x ∷ xs) [] w s = no_byte (sym s)
begins_same (b ∷ key) (suc k) (x ∷ xs) (y ∷ ys) w s = go (true_or_false (eqb x b)) (λ t. begins_same key (left b k) xs ys w t)
  where
    same : y ≡ x
    same = same_byte k x y xs ys s

    both : eqb x b ≡ true → eqb y b ≡ true → KeySame key (left b k) xs ys → KeySame (b ∷ key) (suc k) (x ∷ xs) (y ∷ ys)
    both e f (both_begin p q t) = both_begin (rw (e, p)) (rw (f, q)) t
    both e f (both_not p q) = both_not (rw (e, p)) (rw (f, q))

    go : (eqb x b ≡ true) ⊎ (eqb x b ≡ false) → (Same (left b k) xs ys → KeySame key (left b k) xs ys) → KeySame (b ∷ key) (suc k) (x ∷ xs) (y ∷ ys)
    go (inl e) ih =
        let t : Same (left x k) xs ys = same_rest k x y xs ys s in
        both e (rw same e) (ih (rw (eqb-true x b e) at t))
    go (inr e) ih = both_not (rw e) (rw (same, e))

-- a line that has a key, which no LF stands in
pub keyed_line_same : (key : List ℕ) (more line k : ℕ) (xs ys : List ℕ) → Within key (suc k) → left_by key (suc k) ≡ suc k → Same (suc k) xs ys
    → NextSame k line (keyed_line key (suc more) line xs).next (keyed_line key (suc more) line ys).next
unfolding keyed_line
keyed_line_same key more line k xs ys w l s = go (begins_same key (suc k) xs ys w s)
  where
    go : KeySame key (suc k) xs ys → NextSame k line (keyed_line key (suc more) line xs).next (keyed_line key (suc more) line ys).next
    go (both_begin p q t) = rw (p, q) (numbers_same more line k (drop (length key) xs) (drop (length key) ys) (rw l at t))
    go (both_not p q) = rw (p, q) both_wrong

-- Where a reading stands: up to line `end`, two readings stand alike.
pub data Along (end : ℕ) : Next → Next → Type 0 where
  on : {line : ℕ} {xs ys : List ℕ} → Same (end - line) xs ys → Along end (goes_on line xs) (goes_on line ys)
  wrong : {line : ℕ} → Along end (wrong_at line) (wrong_at line)
  beyond : {a b : Next} → end ≤ line_of a → Along end a b

-- No reading goes back.
then_from : {line : ℕ} (words : List ℕ) (next : Next) (more : ℕ → List ℕ → Read) → line ≤ line_of next → ((after : ℕ) (rest : List ℕ) → after ≤ line_of (more after rest).next) → line ≤ line_of (words_then words next more).next
then_from words (goes_on after rest) more h k = omega (arith, h, k after rest)
then_from words (wrong_at after) more h k = h

numbers_from_lem : (count line : ℕ) (bytes : List ℕ) → line ≤ line_of (numbers count line bytes).next
unfolding numbers
numbers_from_lem zero line bytes = omega arith
numbers_from_lem (suc more) line bytes = go (number_then (separator more) bytes) (λ rest. numbers_from_lem more line rest)
  where
    go : (found : Number) → ((rest : List ℕ) → line ≤ line_of (numbers more line rest).next) → line ≤ line_of (or_wrong line found (λ n rest. numbers more line rest)).next
    go (value n rest) k = k rest
    go no_number k = omega arith

keyed_line_from : (key : List ℕ) (count line : ℕ) (bytes : List ℕ) → line ≤ line_of (keyed_line key count line bytes).next
unfolding keyed_line
keyed_line_from key count line bytes = go (begins key bytes)
  where
    go : (b : Bool) → line ≤ line_of (cond b (numbers count line (drop (length key) bytes)) (nothing (wrong_at line))).next
    go true = numbers_from_lem count line (drop (length key) bytes)
    go false = omega arith

keyed_lines_from : (key : List ℕ) (width count line : ℕ) (bytes : List ℕ) → line ≤ line_of (keyed_lines key width count line bytes).next
unfolding keyed_lines
keyed_lines_from key width zero line bytes = omega arith
keyed_lines_from key width (suc more) line bytes =
    then_from (keyed_line key width line bytes).words (keyed_line key width line bytes).next (λ after rest. keyed_lines key width more after rest) (keyed_line_from key width line bytes) (λ after rest. keyed_lines_from key width more after rest)

rows_from : (line : ℕ) (found : Relation) → line ≤ line_of (table_behind line found).next
rows_from line (relation columns rows bytes) = omega (arith, keyed_lines_from row_key columns rows (line + 1) bytes)
rows_from line no_relation = omega arith

table_of_from : (total line : ℕ) (bytes : List ℕ) → line ≤ line_of (table_of total line bytes).next
unfolding table_of
table_of_from total line bytes = rows_from line (relation_of total (drop (length relation_key) bytes))

tables_then_from : {line : ℕ} (catalogue tables : List ℕ) (next : Next) (more : ℕ → List ℕ → ReadTables) → line ≤ line_of next → ((after : ℕ) (rest : List ℕ) → after ≤ line_of (more after rest).next) → line ≤ line_of (tables_then catalogue tables next more).next
tables_then_from catalogue tables (goes_on after rest) more h k = omega (arith, h, k after rest)
tables_then_from catalogue tables (wrong_at after) more h k = h

pub tables_of_from : (count total line : ℕ) (bytes : List ℕ) → line ≤ line_of (tables_of count total line bytes).next
unfolding tables_of
tables_of_from zero total line bytes = omega arith
tables_of_from (suc more) total line bytes =
    let first : ReadTables = table_of total line bytes in
    go (tables_then first.catalogue first.tables first.next (λ after rest. tables_of more (total + catalogue_words first.catalogue) after rest)) (begins relation_key bytes)
    (tables_then_from first.catalogue first.tables first.next (λ after rest. tables_of more (total + catalogue_words first.catalogue) after rest) (table_of_from total line bytes)
    (λ after rest. tables_of_from more (total + catalogue_words first.catalogue) after rest))
  where
    go : (found : ReadTables) (b : Bool) → line ≤ line_of found.next → line ≤ line_of (cond b found (no_tables (goes_on line bytes))).next
    go found true h = h
    go found false h = omega arith

ended_from : (line : ℕ) (bytes : List ℕ) (more : Read) → line ≤ line_of more.next → line ≤ line_of (unless_ended line bytes more).next
ended_from line [] more h = omega arith
ended_from line (byte ∷ bytes) more h = h

pub nodes_of_from : (count line : ℕ) (bytes : List ℕ) → line ≤ line_of (nodes_of count line bytes).next
unfolding nodes_of
nodes_of_from zero line bytes = omega arith
nodes_of_from (suc more) line bytes =
    let first : Read = keyed_line node_key question_node_words line bytes in
    then_from first.words first.next (λ after rest. unless_ended after rest (nodes_of more after rest)) (keyed_line_from node_key question_node_words line bytes) (λ after rest. ended_from after rest (nodes_of more after rest) (nodes_of_from more after rest))

-- Readings of the same lines go along.
module _ (end : ℕ) where
  then_along : {a b : Next} (words others : List ℕ) (more : ℕ → List ℕ → Read) → Along end a b
      → ((line : ℕ) (xs ys : List ℕ) → Same (end - line) xs ys → Along end (more line xs).next (more line ys).next)
      → ((line : ℕ) (xs : List ℕ) → line ≤ line_of (more line xs).next) → Along end (words_then words a more).next (words_then others b more).next
  then_along words others more (on {line} {xs} {ys} s) k f = k line xs ys s
  then_along words others more wrong k f = wrong
  then_along {a} {b} words others more (beyond h) k f = beyond (go a h)
    where
      go : (a : Next) → end ≤ line_of a → end ≤ line_of (words_then words a more).next
      go (goes_on line xs) h = omega (arith, h, f line xs)
      go (wrong_at line) h = h

  lift : {line : ℕ} {a b : Next} → NextSame (end - (line + 1)) line a b → Along end a b
  lift (both_on s) = on s
  lift both_wrong = wrong

  -- the lines before `end`, from `line` on
  one_more : (line : ℕ) → line < end → end - line ≡ suc (end - (line + 1))
  one_more line h = omega arith

  -- either a line stands before `end`, and the readings of it are the same, or beyond
  before : {a b : Next} (line : ℕ) (xs ys : List ℕ) → Same (end - line) xs ys → line ≤ line_of a → (line < end → Same (suc (end - (line + 1))) xs ys → Along end a b) → Along end a b
  before {a} {b} line xs ys s from k = go (true_or_false (ltb line end))
    where
      go : (ltb line end ≡ true) ⊎ (ltb line end ≡ false) → Along end a b
      go (inl e) = let l : line < end = ltb-true line end e in k l (rw (one_more line l) at s)
      go (inr e) = beyond {a = a} (omega (arith, from, ltb-false line end e))

  keyed_line_along : (key : List ℕ) (more line : ℕ) (xs ys : List ℕ) → ((k : ℕ) → Within key (suc k)) → ((k : ℕ) → left_by key (suc k) ≡ suc k) → Same (end - line) xs ys
      → Along end (keyed_line key (suc more) line xs).next (keyed_line key (suc more) line ys).next
  keyed_line_along key more line xs ys w l s =
      before line xs ys s (keyed_line_from key (suc more) line xs) (λ h t. lift (keyed_line_same key more line (end - (line + 1)) xs ys (w (end - (line + 1))) (l (end - (line + 1))) t))

  keyed_lines_along : (key : List ℕ) (more count line : ℕ) (xs ys : List ℕ) → ((k : ℕ) → Within key (suc k)) → ((k : ℕ) → left_by key (suc k) ≡ suc k) → Same (end - line) xs ys
      → Along end (keyed_lines key (suc more) count line xs).next (keyed_lines key (suc more) count line ys).next
  unfolding keyed_lines
  keyed_lines_along key more zero line xs ys w l s = on s
  keyed_lines_along key more (suc count) line xs ys w l s =
      then_along (keyed_line key (suc more) line xs).words (keyed_line key (suc more) line ys).words (λ after rest. keyed_lines key (suc more) count after rest)
      (keyed_line_along key more line xs ys w l s) (λ after us vs t. keyed_lines_along key more count after us vs w l t) (λ after rest. keyed_lines_from key (suc more) count after rest)

  -- a relation line
  data RelationSame (k : ℕ) : Relation → Relation → Type 0 where
    both_relation : {columns rows : ℕ} {xs ys : List ℕ} → Same k xs ys → RelationSame k (relation (suc columns) rows xs) (relation (suc columns) rows ys)
    none_fits : RelationSame k no_relation no_relation

  rows_same : (total columns k : ℕ) {a b : Number} → NumberSame k a b → RelationSame k (with_rows total columns a) (with_rows total columns b)
  rows_same total zero k (both_value {n = rows} s) = none_fits
  rows_same total (suc columns) k (both_value {n = rows} {xs} {ys} s) = go (pair_ok (suc columns) rows && leb (total + suc columns * rows) word_limit)
    where
      go : (b : Bool) → RelationSame k (cond b (relation (suc columns) rows xs) no_relation) (cond b (relation (suc columns) rows ys) no_relation)
      go true = both_relation s
      go false = none_fits
  rows_same total zero k neither = none_fits
  rows_same total (suc columns) k neither = none_fits

  relation_of_same : (total k : ℕ) (xs ys : List ℕ) → Same (suc k) xs ys → RelationSame k (relation_of total xs) (relation_of total ys)
  unfolding relation_of
  relation_of_same total k xs ys s = go (number_then_same space k xs ys s)
    where
      go : {a b : Number} → NumberSame (suc k) a b → RelationSame k (with_columns total a) (with_columns total b)
      go (both_value {n = columns} {xs = us} {ys = vs} t) = rows_same total columns k (number_then_same line_feed k us vs t)
      go neither = none_fits

  record TableAlong (a b : ReadTables) : Type 0 where
    next_along : Along end a.next b.next
    same_catalogue : a.catalogue ≡ b.catalogue

  table_behind_along : (line : ℕ) {a b : Relation} → RelationSame (end - (line + 1)) a b → TableAlong (table_behind line a) (table_behind line b)
  table_behind_along line (both_relation {columns} {rows} {xs} {ys} s) = record { next_along = keyed_lines_along row_key columns rows (line + 1) xs ys (λ k. tt) (λ k. refl) s; same_catalogue = refl }
  table_behind_along line none_fits = record { next_along = wrong; same_catalogue = refl }

  tables_then_along : (a b : ReadTables) (total more : ℕ) → TableAlong a b
      → ((words line : ℕ) (xs ys : List ℕ) → Same (end - line) xs ys → Along end (tables_of more words line xs).next (tables_of more words line ys).next)
      → Along end (tables_then a.catalogue a.tables a.next (λ after rest. tables_of more (total + catalogue_words a.catalogue) after rest)).next
      (tables_then b.catalogue b.tables b.next (λ after rest. tables_of more (total + catalogue_words b.catalogue) after rest)).next
  tables_then_along a b total more t k =
      rw (← t.same_catalogue) (go t.next_along)
    where
      words : ℕ
      words = total + catalogue_words a.catalogue

      stays : (p : Next) → end ≤ line_of p → end ≤ line_of (tables_then a.catalogue a.tables p (λ after rest. tables_of more words after rest)).next
      stays (goes_on line xs) h = omega (arith, h, tables_of_from more words line xs)
      stays (wrong_at line) h = h

      go : {p q : Next} → Along end p q → Along end (tables_then a.catalogue a.tables p (λ after rest. tables_of more words after rest)).next (tables_then a.catalogue b.tables q (λ after rest. tables_of more words after rest)).next
      go (on {line} {xs} {ys} s) = k words line xs ys s
      go wrong = wrong
      go {p} {q} (beyond h) = beyond (stays p h)

  tables_of_along : (count total line : ℕ) (xs ys : List ℕ) → Same (end - line) xs ys → Along end (tables_of count total line xs).next (tables_of count total line ys).next
  unfolding tables_of table_of
  tables_of_along zero total line xs ys s = on s
  tables_of_along (suc more) total line xs ys s =
      before line xs ys s (tables_of_from (suc more) total line xs) (λ h t. go (begins_same relation_key (suc (end - (line + 1))) xs ys tt t) (λ words after us vs u. tables_of_along more words after us vs u))
    where
      go : KeySame relation_key (suc (end - (line + 1))) xs ys
          → ((words after : ℕ) (us vs : List ℕ) → Same (end - after) us vs → Along end (tables_of more words after us).next (tables_of more words after vs).next)
          → Along end (tables_of (suc more) total line xs).next (tables_of (suc more) total line ys).next
      go (both_begin p q t) k =
          rw (p, q)
          (tables_then_along (table_of total line xs) (table_of total line ys) total more
          (table_behind_along line (relation_of_same total (end - (line + 1)) (drop (length relation_key) xs) (drop (length relation_key) ys) t)) k)
      go (both_not p q) k = rw (p, q) (on s)

  ended_along : (line : ℕ) (xs ys : List ℕ) (a b : Read) → Same (end - line) xs ys → line ≤ line_of a.next → Along end a.next b.next → Along end (unless_ended line xs a).next (unless_ended line ys b).next
  unfolding first_lines
  ended_along line [] [] a b s from k = on s
  ended_along line [] (y ∷ ys) a b s from k = before {b = b.next} line [] (y ∷ ys) s (omega arith) (λ h t. no_byte t)
  ended_along line (x ∷ xs) [] a b s from k = before {a = a.next} line (x ∷ xs) [] s from (λ h t. no_byte (sym t))
  ended_along line (x ∷ xs) (y ∷ ys) a b s from k = k

  nodes_of_along : (count line : ℕ) (xs ys : List ℕ) → Same (end - line) xs ys → Along end (nodes_of count line xs).next (nodes_of count line ys).next
  unfolding nodes_of
  nodes_of_along zero line xs ys s = wrong
  nodes_of_along (suc more) line xs ys s =
      then_along (keyed_line node_key question_node_words line xs).words (keyed_line node_key question_node_words line ys).words (λ after rest. unless_ended after rest (nodes_of more after rest))
      (keyed_line_along node_key 5 line xs ys (λ k. tt) (λ k. refl) s)
      (λ after us vs t. ended_along after us vs (nodes_of more after us) (nodes_of more after vs) t (nodes_of_from more after us) (nodes_of_along more after us vs t))
      (λ after rest. ended_from after rest (nodes_of more after rest) (nodes_of_from more after rest))

  behind-mode_along : (mode mode' : ℕ) (xs ys : List ℕ) → Same (end - 2) xs ys → Along end (with_tables mode (tables_of catalogue_pair_limit 0 2 xs)).next (with_tables mode' (tables_of catalogue_pair_limit 0 2 ys)).next
  behind-mode_along mode mode' xs ys s = go (tables_of_along catalogue_pair_limit 0 2 xs ys s)
    where
      stays : (p : Next) → end ≤ line_of p → end ≤ line_of (nodes_after p).next
      stays (goes_on line us) h = omega (arith, h, nodes_of_from question_node_limit line us)
      stays (wrong_at line) h = h

      go : {p q : Next} → Along end p q → Along end (nodes_after p).next (nodes_after q).next
      go (on {line} {xs = us} {ys = vs} t) = nodes_of_along question_node_limit line us vs t
      go wrong = wrong
      go {p} {q} (beyond h) = beyond (stays p h)

-- the lines of two texts with the same first lines
pub lines_along : (k : ℕ) (xs ys : List ℕ) → Same (suc k) xs ys → Along (suc (suc k)) (lines_of xs).next (lines_of ys).next
unfolding lines_of
lines_along k xs ys s = plain (begins_same plain_line (suc k) xs ys tt s)
  where
    left_is : suc (suc k) - 2 ≡ k
    left_is = omega arith

    short : begins plain_line xs ≡ false → begins plain_line ys ≡ false → KeySame short_line (suc k) xs ys → Along (suc (suc k)) (lines_of xs).next (lines_of ys).next
    short a b (both_begin p q t) = rw (a, b, p, q) (behind-mode_along (suc (suc k)) 1 1 (drop (length short_line) xs) (drop (length short_line) ys) (rw left_is t))
    short a b (both_not p q) = rw (a, b, p, q) wrong

    plain : KeySame plain_line (suc k) xs ys → Along (suc (suc k)) (lines_of xs).next (lines_of ys).next
    plain (both_begin p q t) = rw (p, q) (behind-mode_along (suc (suc k)) 0 0 (drop (length plain_line) xs) (drop (length plain_line) ys) (rw left_is t))
    plain (both_not p q) = short p q (begins_same short_line (suc k) xs ys tt s)

-- a wrong line is wrong in both
pub wrong_in_both : (line : ℕ) {a b : Next} → Along (suc line) a b → a ≡ wrong_at line → b ≡ wrong_at line
wrong_in_both line (on s) e = let z : ◌≡◌ {A = ℕ} 0 1 = cc in absurd (omega arith)
wrong_in_both line wrong e = e
wrong_in_both line {a} {b} (beyond h) e = let l : suc line ≤ line_of (wrong_at line) = rw e at h in absurd (omega arith)
