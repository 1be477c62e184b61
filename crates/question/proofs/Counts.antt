-- How many nodes there are, and that no node refers to the last: so the search for a node that is not referred to once ends there. Assumes nothing.
use mathlib.Core.Path.{◌≡◌, refl, ◌∙◌, ap}
use mathlib.Core.Bool.{Bool, true}
use mathlib.Core.List.{List}
use Prim.Native.Nat.{ℕ, zero, suc, ◌+◌, ◌*◌, ◌-◌, ◌%◌, ◌≤◌}
use native.Mathlib.Nat.{div-add-mod'}
use native.Mathlib.Omega.{arith}
use lib.Dec.{leb, eqb}
use lib.ListN.{length}
use borrow.Author.Tests.{leb-true, eqb-true, ne_eqb}
use Rattle.relations.specs.Limits.{question_node_limit, question_node_words}
use Rattle.nodes.specs.Nodes.{node_count, node_at}
use Rattle.nodes.specs.References.{reference_list, references_to, hit, seen, first_from, lowest, not_once}
use Rattle.question.specs.Judgement.{count_ok, last_node, lowest_not_once}
use Rattle.nodes.proofs.Bits.{seen-append}
use Rattle.nodes.proofs.Forms.{node_lower, first_of, second_of, third_of}

pub record Counted (words : List ℕ) : Type 0 where
  pub whole : node_count words * question_node_words ≡ length words
  pub some : 1 ≤ node_count words
  pub few : node_count words ≤ question_node_limit

pub counted : (words : List ℕ) → count_ok words ≡ true → Counted words
counted words ok =
    let n : ℕ = node_count words in
    let a : Bool = eqb (length words % question_node_words) 0 in
    record {
      whole = omega (arith, div-add-mod' (length words) question_node_words, eqb-true (length words % question_node_words) 0 (first_of a (leb 1 n) (leb n question_node_limit) ok));
      some = leb-true 1 n (second_of a (leb 1 n) (leb n question_node_limit) ok);
      few = leb-true n question_node_limit (third_of a (leb 1 n) (leb n question_node_limit) ok);
    }

-- a reference misses every node that is not below its own
missed : (reference j : ℕ) → reference ≤ j → hit reference j ≡ 0
missed reference j h = simp (ne_eqb reference (suc j) (λ e. omega arith))

pub not_seen : (words : List ℕ) (n j : ℕ) → n ≤ suc j → seen (references_to words n) j ≡ 0
unfolding references_to seen
not_seen words zero j h = refl
not_seen words (suc n) j h =
    let l = node_lower words n in
    let r = node_at words n in
    omega (arith, seen-append (references_to words n) (reference_list r) j, not_seen words n j (omega arith), missed r.a j (omega (arith, l.a_lower)), missed r.b j (omega (arith, l.b_lower)), missed r.c j (omega (arith, l.c_lower)))

-- a search ends where its test holds
cut : (test : ℕ → Bool) (k more j : ℕ) → test (j + k) ≡ true → first_from test (suc (k + more)) j ≡ first_from test k j
unfolding first_from
cut test zero more j h = let e : j + 0 ≡ j = omega arith in rw (rw e at h)
cut test (suc k) more j h =
    let e : suc k + more ≡ suc (k + more) = omega arith in
    let f : j + suc k ≡ suc j + k = omega arith in
    rw (e, cut test k more (suc j) (rw f at h))

pub lowest_not_once_lem : (words : List ℕ) → Counted words → lowest (not_once (references_to words (node_count words))) question_node_limit ≡ lowest_not_once words
lowest_not_once_lem words n =
    let test : ℕ → Bool = not_once (references_to words (node_count words)) in
    let last : ℕ = last_node words in
    let e : question_node_limit ≡ suc (last + (question_node_limit - suc last)) = omega (arith, n.few, n.some) in
    let u : seen (references_to words (node_count words)) last ≡ 0 = not_seen words (node_count words) last (omega (arith, n.some)) in
    ap (λ (k : ℕ). first_from test k 0) e ∙ cut test last (question_node_limit - suc last) 0 (let z : 0 + last ≡ last = omega arith in rw (z, u))
