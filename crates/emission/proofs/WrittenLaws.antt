-- Nodes written one behind another. Assumes nothing.
use Prim.Native.Nat.{ℕ, zero, suc, pred, ◌+◌, ◌*◌, ◌≤◌, ◌-◌}
use mathlib.Core.Path.{◌≡◌, refl, sym, ap, ap₂, subst, ◌∙◌}
use mathlib.Core.List.{List, [], ◌∷◌, ◌++◌, append_assoc, append-nil}
use native.Mathlib.Omega.{arith}
use lib.ListN.{length, length-append}
use lib.Seq.{sets, length-sets}
use Rattle.relations.specs.Limits.{plan_node_words}
use Rattle.relations.specs.Lists.{flat}
use Rattle.relations.specs.Nodes.{Node}
use Rattle.relations.specs.PlanWords.{node_words}
use Rattle.calculus.specs.ShortRules.{last_number}
use Rattle.emission.specs.Written.{Room, Written}
use Rattle.relations.proofs.StoreLaws.{sets-append}

flat_append : (xs ys : List Node) → flat node_words (xs ++ ys) ≡ flat node_words xs ++ flat node_words ys
flat_append [] ys = refl
flat_append (x ∷ xs) ys = ap (λ rest. node_words x ++ rest) (flat_append xs ys) ∙ sym (append_assoc (node_words x) (flat node_words xs) (flat node_words ys))

pub written_one : {before after : List ℕ} {n count : ℕ} (node : Node) (words : List ℕ) → (after ≡ sets before (n * plan_node_words) words) × (count ≡ n + 1) → words ≡ node_words node → length words ≡ plan_node_words → Written before n (node ∷ []) after count
written_one {before} {n = n} node words w e l =
    record {
      words = w.0 ∙ ap (sets before (n * plan_node_words)) (e ∙ sym (append-nil (node_words node)));
      whole = ap length (append-nil (node_words node)) ∙ ap length (sym e) ∙ l;
      counted = w.1;
    }

-- a call that appends nodes has one outcome
pub written_unique : {before after other : List ℕ} {n count total : ℕ} {xs : List Node} → Written before n xs after count → Written before n xs other total → (after ≡ other) × (count ≡ total)
written_unique v w = (v.words ∙ sym w.words, v.counted ∙ sym w.counted)

pub written-nothing : (plan : List ℕ) (n : ℕ) → Written plan n [] plan n
written-nothing plan n = record { words = refl; whole = refl; counted = omega arith }

pub written_then : {before middle after : List ℕ} {n m count : ℕ} {xs ys : List Node} → Written before n xs middle m → Written middle m ys after count → Written before n (xs ++ ys) after count
written_then {before} {middle} {n = n} {m = m} {xs = xs} {ys = ys} v w =
    let k : m * plan_node_words ≡ n * plan_node_words + length (flat node_words xs) = omega (arith, v.counted, v.whole) in
    record {
      words = w.words ∙ rw (v.words, k) (sym (ap (sets before (n * plan_node_words)) (flat_append xs ys) ∙ sets-append before (n * plan_node_words) (flat node_words xs) (flat node_words ys)));
      whole = omega (arith, ap length (flat_append xs ys), length-append (flat node_words xs) (flat node_words ys), length-append xs ys, v.whole, w.whole);
      counted = omega (arith, v.counted, w.counted, length-append xs ys);
    }

pub written_as : {before after : List ℕ} {n count : ℕ} {xs ys : List Node} → xs ≡ ys → Written before n ys after count → Written before n xs after count
written_as {before} {after} {n} {count} e w = subst (λ nodes. Written before n nodes after count) (sym e) w

-- the buffer stays as long, so room is a matter of nodes
pub room_after : {before after : List ℕ} {n m more : ℕ} {xs : List Node} (rest : ℕ) → Room before n more → Written before n xs after m → length xs + rest ≤ more → Room after m rest
room_after {before} {n = n} {xs = xs} rest r w h =
    record {
      nodes = omega (arith, r.nodes, w.counted);
      buffer = omega (arith, r.buffer, ap length w.words, length-sets before (n * plan_node_words) (flat node_words xs));
    }

pub room-less : {plan : List ℕ} {n more : ℕ} (less : ℕ) → Room plan n more → less ≤ more → Room plan n less
room-less less r h = record { nodes = omega (arith, r.nodes); buffer = r.buffer }

-- the node whose value is asked for is the last one

pub pred_is : (k : ℕ) → pred k ≡ k - 1
pred_is zero = omega arith
pred_is (suc k) = omega arith

pub last_is : {before after : List ℕ} {n count : ℕ} {xs : List Node} → Written before n xs after count → last_number n xs ≡ count - 1
last_is {count = count} w = ap pred (sym w.counted) ∙ pred_is count

-- nodes that go on behind those written, from the last of them
pub going_on : {before middle after : List ℕ} {n m count : ℕ} {xs : List Node} (T : ℕ → ℕ → List Node) → Written before n xs middle m → Written middle m (T (m - 1) m) after count → Written before n (xs ++ T (last_number n xs) (n + length xs)) after count
going_on T w v = written_then w (written_as (ap₂ T (last_is w) (sym w.counted)) v)
