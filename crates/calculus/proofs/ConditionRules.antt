-- The rules of "some", "every" and "not", plain and shortened, for a condition of the question and any translations of its parts.
use mathlib.Core.Path.{◌≡◌, refl, sym, ◌∙◌, ap}
use mathlib.Core.Bool.{Bool, true, false, not, ◌&&◌, ◌||◌, So}
use mathlib.Core.List.{List, ◌++◌, map}
use Prim.Native.Nat.{ℕ}
use lib.Dec.{leb}
use lib.ListN.{length}
use Rattle.relations.specs.Legality.{between}
use Rattle.relations.specs.Limits.{triple_limit, pair_limit}
use Rattle.relations.specs.Lists.{any, all, filter, All, how_many}
use Rattle.relations.specs.Nodes.{Node}
use Rattle.relations.specs.Plan.{value_at}
use Rattle.relations.specs.Rows.{Row}
use Rattle.relations.specs.Values.{Rows, Tables, Ascending, Wide}
use Rattle.relations.proofs.BoolLaws.{and_left, and_right}
use Rattle.relations.proofs.CountLaws.{how_many_cong}
use Rattle.relations.proofs.ListLaws.{all_mono, all_every, filter_cong, any_cong, any_same, filter_same, all_not_any, all_cong, all_test_map}
use Rattle.calculus.specs.Form.{NotInScope, GoodAtom, GoodCondition}
use Rattle.calculus.specs.Leaves.{is_and_tree, is_or_tree, leaves, opposite_atom, alone_on, compares_with_other, equates_with, equates_outside}
use Rattle.calculus.specs.Meaning.{bound, atom_holds, condition_holds}
use Rattle.calculus.specs.Question.{Atom, Condition}
use Rattle.calculus.specs.Scope.{Scope, extend, columns_in, environment_of}
use Rattle.calculus.specs.ShortRules.{short_rule2_atoms, short_rule2_fits, short_rule2_nodes, short_rule3_nodes, short_rule4_fits, short_rule4_nodes, short_rule5_atoms, short_rule5_fits, short_rule5_nodes}
use Rattle.calculus.proofs.AtomRules.{all_atoms_hold, short-rule_2, short-rule_3}
use Rattle.calculus.proofs.DivisionRule.{SoundOver, over-rule, short-rule_5}
use Rattle.calculus.proofs.LeafLaws.{good-leaves, and_tree_holds, or_tree_fails, atoms-opposite, good_opposites}
use Rattle.calculus.proofs.PlainRules.{Sound, Makes, some-rule, every_rule, at_least-rule}
use Rattle.calculus.proofs.RuleNodes.{plain_some, plain_every, after_range, plain_at_least}
use Rattle.calculus.proofs.ScopeLaws.{environment_extend}

module _ (tables : Tables) where
  pub sound_cong : (s : Scope) (T : ℕ → ℕ → List Node) (F G : Row → Bool) → ((p : Row) → length p ≡ columns_in s → F p ≡ G p) → Sound tables s T F → Sound tables s T G
  sound_cong s T F G h t made n p e l g = t made n p e l g ∙ filter_cong F G (value_at made p) (all_mono h (value_at made p) g.1)

  pub choose : (s : Scope) (b : Bool) (A B : ℕ → ℕ → List Node) (F : Row → Bool) → (b ≡ true → Sound tables s A F) → (b ≡ false → Sound tables s B F) → Sound tables s (λ p n. elim b [ true ↦ A p n | false ↦ B p n ]) F
  choose s true A B F f g = f refl
  choose s false A B F f g = g refl

-- what S2's kinds say of the atoms
pub rule_2_kinds : (b : Bool) (v : ℕ) (cs : List Atom) → So (b && short_rule2_atoms v cs) → So (all (λ a. alone_on v a || compares_with_other v a) cs)
rule_2_kinds b v cs h = and_left (all (λ a. alone_on v a || compares_with_other v a) cs) (leb (length (filter (compares_with_other v) cs)) triple_limit) (and_right b (short_rule2_atoms v cs) h)

module _ (tables : Tables) (columns : ℕ → ℕ) (relations : ℕ) (short : Bool) (s : Scope) (v w : ℕ) (new : NotInScope v s) (T : ℕ → List Node) (R : Rows) (makes : Makes tables T R) (value : Ascending R × Wide w R) (f : Condition) (good : GoodCondition columns relations f (extend s v w)) where
  -- the condition, for P's row p and a row of the range
  abbrev meets_both : Row → Row → Bool
  meets_both p r = condition_holds tables f (bound (environment_of s p) v r)

  atoms-good : All (GoodAtom (extend s v w)) (leaves f)
  atoms-good = good-leaves columns relations f (extend s v w) good

  -- a row of the product is P's row with the range's row bound
  product_row : (p : Row) → length p ≡ columns_in s → All (λ r. condition_holds tables f (environment_of (extend s v w) (p ++ r)) ≡ meets_both p r) R
  product_row p e = all_mono (λ r k. ap (condition_holds tables f) (environment_extend s v w new p r e k)) R value.1

  and_tree : So (short_rule2_fits v f) → (p : Row) → any (all_atoms_hold tables s v (leaves f) p) R ≡ any (meets_both p) R
  and_tree i p = any_same (all_atoms_hold tables s v (leaves f) p) (meets_both p) (λ r. sym (and_tree_holds tables f (and_left (is_and_tree f) (short_rule2_atoms v (leaves f)) i) (bound (environment_of s p) v r))) R

  -- Some, by S2 or plain
  pub some_case : (U : ℕ → ℕ → List Node) → Sound tables (extend s v w) U (λ r. condition_holds tables f (environment_of (extend s v w) r)) → Sound tables s (λ p n. elim (short && short_rule2_fits v f) [ true ↦ short_rule2_nodes s v w (leaves f) (T n) p n | false ↦ plain_some s T U p n ]) (λ p. any (meets_both p) R)
  some_case U sound = choose tables s (short && short_rule2_fits v f) (λ p n. short_rule2_nodes s v w (leaves f) (T n) p n) (plain_some s T U) (λ p. any (meets_both p) R) shortened plain
    where
      shortened : (short && short_rule2_fits v f) ≡ true → Sound tables s (λ p n. short_rule2_nodes s v w (leaves f) (T n) p n) (λ p. any (meets_both p) R)
      shortened i =
          let fits : So (short_rule2_fits v f) = and_right short (short_rule2_fits v f) i in
          sound_cong tables s (λ p n. short_rule2_nodes s v w (leaves f) (T n) p n) (λ p. any (all_atoms_hold tables s v (leaves f) p) R) (λ p. any (meets_both p) R) (λ p k. and_tree fits p) (short-rule_2 tables s v w new (leaves f) atoms-good T R makes value (rule_2_kinds (is_and_tree f) v (leaves f) fits))

      plain : (short && short_rule2_fits v f) ≡ false → Sound tables s (plain_some s T U) (λ p. any (meets_both p) R)
      plain i = sound_cong tables s (plain_some s T U) (λ p. any (λ r. condition_holds tables f (environment_of (extend s v w) (p ++ r))) R) (λ p. any (meets_both p) R) (λ p e. any_cong (λ r. condition_holds tables f (environment_of (extend s v w) (p ++ r))) (meets_both p) R (product_row p e)) (some-rule tables s v w T R U (λ r. condition_holds tables f (environment_of (extend s v w) r)) makes value.1 sound)

  -- Not some, by S3
  pub not_some_case : So (short_rule2_fits v f) → Sound tables s (λ p n. short_rule3_nodes s v w (leaves f) (T n) p n) (λ p. not (any (meets_both p) R))
  not_some_case i = sound_cong tables s (λ p n. short_rule3_nodes s v w (leaves f) (T n) p n) (λ p. not (any (all_atoms_hold tables s v (leaves f) p) R)) (λ p. not (any (meets_both p) R)) (λ p k. ap not (and_tree i p)) (short-rule_3 tables s v w new (leaves f) atoms-good T R makes value (rule_2_kinds (is_and_tree f) v (leaves f) i))

  -- Every, by S4
  every_case_4 : So (short_rule4_fits v f) → Sound tables s (λ p n. short_rule4_nodes s v w (leaves f) (T n) p n) (λ p. all (meets_both p) R)
  every_case_4 i = sound_cong tables s (λ p n. short_rule4_nodes s v w (leaves f) (T n) p n) (λ p. not (any (all_atoms_hold tables s v (map opposite_atom (leaves f)) p) R)) (λ p. all (meets_both p) R) (λ p k. opposed p) (short-rule_3 tables s v w new (map opposite_atom (leaves f)) (good_opposites (extend s v w) (leaves f) atoms-good) T R makes value (atoms-opposite v (leaves f) ∙ rule_2_kinds (is_or_tree f) v (leaves f) i))
    where
      opposed : (p : Row) → not (any (all_atoms_hold tables s v (map opposite_atom (leaves f)) p) R) ≡ all (meets_both p) R
      opposed p = ap not (any_same (all_atoms_hold tables s v (map opposite_atom (leaves f)) p) (λ r. not (meets_both p r)) (λ r. all_test_map (λ a. atom_holds a (bound (environment_of s p) v r)) opposite_atom (leaves f) ∙ sym (or_tree_fails tables f (and_left (is_or_tree f) (short_rule2_atoms v (leaves f)) i) (bound (environment_of s p) v r))) R) ∙ all_not_any (meets_both p) R

  -- Every, by S4, S5 or plain; O is the division of S5
  pub every_case : (U : ℕ → ℕ → List Node) (O : ℕ → ℕ → ℕ → List Node) → Sound tables (extend s v w) U (λ r. condition_holds tables f (environment_of (extend s v w) r)) → (So (short_rule5_fits v f) → SoundOver tables s w O meets_both)
      → Sound tables s (λ p n. elim (short && short_rule4_fits v f) [ true ↦ short_rule4_nodes s v w (leaves f) (T n) p n | false ↦ elim (short && short_rule5_fits v f) [ true ↦ after_range T O p n | false ↦ plain_every s T U p n ] ]) (λ p. all (meets_both p) R)
  every_case U O sound over = choose tables s (short && short_rule4_fits v f) (λ p n. short_rule4_nodes s v w (leaves f) (T n) p n) (λ p n. elim (short && short_rule5_fits v f) [ true ↦ after_range T O p n | false ↦ plain_every s T U p n ]) (λ p. all (meets_both p) R) (λ i. every_case_4 (and_right short (short_rule4_fits v f) i)) (λ i. choose tables s (short && short_rule5_fits v f) (after_range T O) (plain_every s T U) (λ p. all (meets_both p) R) (λ j. over-rule tables s w T R O meets_both makes value (over (and_right short (short_rule5_fits v f) j))) plain)
    where
      plain : (short && short_rule5_fits v f) ≡ false → Sound tables s (plain_every s T U) (λ p. all (meets_both p) R)
      plain i = sound_cong tables s (plain_every s T U) (λ p. all (λ r. condition_holds tables f (environment_of (extend s v w) (p ++ r))) R) (λ p. all (meets_both p) R) (λ p e. all_cong (λ r. condition_holds tables f (environment_of (extend s v w) (p ++ r))) (meets_both p) R (product_row p e)) (every_rule tables s v w T R U (λ r. condition_holds tables f (environment_of (extend s v w) r)) makes value.1 sound)

  -- At least so many: no short rule looks at it
  pub at_least_case : (least : ℕ) (U : ℕ → ℕ → List Node) → Sound tables (extend s v w) U (λ r. condition_holds tables f (environment_of (extend s v w) r)) → Sound tables s (plain_at_least least T U) (λ p. leb least (how_many (meets_both p) R))
  at_least_case least U sound = sound_cong tables s (plain_at_least least T U) (λ p. leb least (how_many (λ r. condition_holds tables f (environment_of (extend s v w) (p ++ r))) R)) (λ p. leb least (how_many (meets_both p) R)) (λ p e. ap (leb least) (how_many_cong (λ r. condition_holds tables f (environment_of (extend s v w) (p ++ r))) (meets_both p) R (product_row p e))) (at_least-rule tables least s v w T R U (λ r. condition_holds tables f (environment_of (extend s v w) r)) makes value.0 value.1 sound)

-- "Every y" above "some z", by S5
pub division_case : (tables : Tables) (columns : ℕ → ℕ) (relations : ℕ) (s : Scope) (y k z w : ℕ) (T : ℕ → List Node) (R : Rows) (f : Condition) → NotInScope z (extend s y k) → Makes tables T R → Ascending R × Wide w R → GoodCondition columns relations f (extend (extend s y k) z w) → So (is_and_tree f && short_rule5_atoms z y (leaves f))
    → SoundOver tables s k (λ j p n. short_rule5_nodes s y j z w (leaves f) (T n) p n) (λ r t. any (λ q. condition_holds tables f (bound (bound (environment_of s r) y t) z q)) R)
division_case tables columns relations s y k z w T R f new makes value good h made n p j e l lj g hj =
    let cs : List Atom = leaves f in
    let ok : All (GoodAtom (extend (extend s y k) z w)) cs = good-leaves columns relations f (extend (extend s y k) z w) good in
    let counts : Bool = between 1 pair_limit (length (filter (equates_with z y) cs)) && between 1 triple_limit (length (filter (equates_outside z y) cs)) in
    let kinds : So (all (λ a. alone_on z a || (equates_with z y a || equates_outside z y a)) cs) = and_left (all (λ a. alone_on z a || (equates_with z y a || equates_outside z y a)) cs) counts (and_right (is_and_tree f) (short_rule5_atoms z y cs) h) in
    let each : (r t q : Row) → all (λ a. atom_holds a (bound (bound (environment_of s r) y t) z q)) cs ≡ condition_holds tables f (bound (bound (environment_of s r) y t) z q) = λ r t q. sym (and_tree_holds tables f (and_left (is_and_tree f) (short_rule5_atoms z y cs) h) (bound (bound (environment_of s r) y t) z q)) in
    let same : (r : Row) → all (λ t. any (λ q. all (λ a. atom_holds a (bound (bound (environment_of s r) y t) z q)) cs) R) (value_at made j) ≡ all (λ t. any (λ q. condition_holds tables f (bound (bound (environment_of s r) y t) z q)) R) (value_at made j) = λ r. all_cong (λ t. any (λ q. all (λ a. atom_holds a (bound (bound (environment_of s r) y t) z q)) cs) R) (λ t. any (λ q. condition_holds tables f (bound (bound (environment_of s r) y t) z q)) R) (value_at made j) (all_every (λ t. any_same (λ q. all (λ a. atom_holds a (bound (bound (environment_of s r) y t) z q)) cs) (λ q. condition_holds tables f (bound (bound (environment_of s r) y t) z q)) (each r t) R) (value_at made j)) in
    short-rule_5 tables s y k z w new cs ok kinds T R makes value made n p j e l lj g hj ∙ filter_same (λ r. all (λ t. any (λ q. all (λ a. atom_holds a (bound (bound (environment_of s r) y t) z q)) cs) R) (value_at made j)) (λ r. all (λ t. any (λ q. condition_holds tables f (bound (bound (environment_of s r) y t) z q)) R) (value_at made j)) same (value_at made p)
