-- What the walk leaves of the scope and the places that it is lent, step by step: the lowest places fold, and the scope comes back. Assumes nothing.
use mathlib.Core.Path.{◌≡◌, refl, ◌∙◌, ap, ap₂}
use Prim.Native.Nat.{ℕ, ◌≤◌, min}
use native.Mathlib.Omega.{arith}
use lib.ListN.{get_or, set}
use lib.Seq.{set-get_or, set-set}
use Rattle.relations.specs.Limits.{question_node_limit}
use Rattle.nodes.specs.declared.node.Binder.{Binder}
use Rattle.nodes.specs.declared.node.Form.{Form}
use Rattle.nodes.specs.declared.node.Form.TheVariants.{Table, Alpha, Target, Binds, Combines, Compares, Connects, IllFormed}
use Rattle.node_judging.specs.declared.scope.Scope.{Scope}
use Rattle.node_judging.specs.declared.lowest.Lowest.{Lowest}
use Rattle.question.specs.Trees.{Tree, nothing, branch}
use Rattle.node_judging.specs.Steps.{no_widths, bound_width, bind, Found, step_of, place_of, Places, places, no_places, lowered, JudgedAt, judged_at}
use Rattle.question.specs.Walk.{found_at, walk, BindingsWalked, bindings_walked, Walked, walked}

abbrev two_places : (unbound unfit : ℕ) → Places
two_places unbound unfit = record { unbound = unbound; unfit = unfit }

-- a tree with nothing in it leaves the places as they are
none_lowered : (l : Lowest) → lowered (places l) question_node_limit question_node_limit ≡ places l
none_lowered l = ap₂ two_places (omega (arith, l.unbound_so_far)) (omega (arith, l.unfit_so_far))

three_in_line : (x a b c : ℕ) → min (min (min x a) b) c ≡ min x (min a (min b c))
three_in_line x a b c = omega arith

own_behind : (x q p : ℕ) → min (min x q) p ≡ min (min x p) q
own_behind x q p = omega arith

own_first : (x q p : ℕ) → min (min x q) p ≡ min x (min p q)
own_first x q p = omega arith

own_second : (x b p c : ℕ) → min (min (min x b) p) c ≡ min x (min p (min b c))
own_second x b p c = omega arith

none_among : (x p q limit : ℕ) → x ≤ limit → min x (min p q) ≡ min x (min p (min limit q))
none_among x p q limit h = omega arith

-- a node's own place behind those of b, a and c
parts_first : (x a b c p : ℕ) → min (min (min (min x b) a) c) p ≡ min x (min p (min a (min b c)))
parts_first x a b c p = ap (λ (y : ℕ). min (min y c) p) (own_behind x b a) ∙ ap (λ (y : ℕ). min y p) (three_in_line x a b c) ∙ own_first x (min a (min b c)) p

-- and between b and c, where there is no a
between : (x b p c limit : ℕ) → x ≤ limit → min (min (min x b) p) c ≡ min x (min p (min limit (min b c)))
between x b p c limit h = own_second x b p c ∙ none_among x p (min b c) limit h

all_lowered : (l : Places) (p q : ℕ) (a b c : Found)
    → lowered (lowered (lowered (lowered l b.unbound b.unfit) a.unbound a.unfit) c.unbound c.unfit) p q
    ≡ lowered l (min p (min a.unbound (min b.unbound c.unbound))) (min q (min a.unfit (min b.unfit c.unfit)))
all_lowered l p q a b c =
    ap₂ two_places (parts_first (l.unbound) a.unbound b.unbound c.unbound p) (parts_first (l.unfit) a.unfit b.unfit c.unfit q)

binding_lowered : (l : Lowest) (p q : ℕ) (b c : Found)
    → lowered (lowered (lowered (places l) b.unbound b.unfit) p q) c.unbound c.unfit
    ≡ lowered (places l) (min p (min question_node_limit (min b.unbound c.unbound))) (min q (min question_node_limit (min b.unfit c.unfit)))
binding_lowered l p q b c =
    ap₂ two_places (between (l.unbound) b.unbound p c.unbound question_node_limit l.unbound_so_far) (between (l.unfit) b.unfit q c.unfit question_node_limit l.unfit_so_far)

-- a binder's own place behind those of b and c: it has no a
last_of_three : (x b c p limit : ℕ) → x ≤ limit → min (min (min x b) c) p ≡ min x (min p (min limit (min b c)))
last_of_three x b c p limit h = omega arith

binder_lowered : (l : Lowest) (p q : ℕ) (b c : Found)
    → lowered (lowered (lowered (places l) b.unbound b.unfit) c.unbound c.unfit) p q
    ≡ lowered (places l) (min p (min question_node_limit (min b.unbound c.unbound))) (min q (min question_node_limit (min b.unfit c.unfit)))
binder_lowered l p q b c =
    ap₂ two_places (last_of_three l.unbound b.unbound c.unbound p question_node_limit l.unbound_so_far) (last_of_three l.unfit b.unfit c.unfit q question_node_limit l.unfit_so_far)

-- what a binder set is set back, and nothing else was set
set_back : (s : Scope) (v w : ℕ) → set (bind s v w).widths v (get_or s.widths v 0) ≡ s.widths
set_back s v w = set-set s.widths v (bound_width w) (get_or s.widths v 0) ∙ set-get_or s.widths v 0

module _ (s : Scope) where
  -- a node that binds nothing leaves the scope as it was
  leaves : (form : Form) → ((variable : ℕ) (binder : Binder) → form ≡ Binds variable binder → ⊥) → (c : Found) → (step_of s form).behind c ≡ s
  leaves (Table relation) other c = refl
  leaves Alpha other c = refl
  leaves (Target variable attribute) other c = refl
  leaves (Binds variable binder) other c = absurd (other variable binder refl)
  leaves (Combines combination) other c = refl
  leaves (Compares atom) other c = refl
  leaves (Connects connective) other c = refl
  leaves IllFormed other c = refl

  -- and the parts of one that is no alpha either see what it sees
  opens : (form : Form) → (form ≡ Alpha → ⊥) → (step_of s form).opening ≡ s
  opens (Table relation) other = refl
  opens Alpha other = absurd (other refl)
  opens (Target variable attribute) other = refl
  opens (Binds variable binder) other = refl
  opens (Combines combination) other = refl
  opens (Compares atom) other = refl
  opens (Connects connective) other = refl
  opens IllFormed other = refl

  stays : (form : Form) → (form ≡ Alpha → ⊥) → ((variable : ℕ) (binder : Binder) → form ≡ Binds variable binder → ⊥) → (b : Found) → (step_of s form).inside b ≡ s
  stays (Table relation) other unbinding b = refl
  stays Alpha other unbinding b = absurd (other refl)
  stays (Target variable attribute) other unbinding b = refl
  stays (Binds variable binder) other unbinding b = absurd (unbinding variable binder refl)
  stays (Combines combination) other unbinding b = refl
  stays (Compares atom) other unbinding b = refl
  stays (Connects connective) other unbinding b = refl
  stays IllFormed other unbinding b = refl

module _ (columns : ℕ → ℕ) (s : Scope) where
  none_is : walk columns nothing s ≡ record { unbound = question_node_limit; unfit = question_node_limit; width = 0; scope = s }
  unfolding walk
  none_is = refl

  module _ (i : ℕ) (form : Form) (x y z : Tree) where
    walk_is : walk columns (branch i form x y z) s
        ≡ found_at columns i (step_of s form) (walk columns x ((step_of s form).inside (walk columns y (step_of s form).opening))) (walk columns y (step_of s form).opening) (walk columns z ((step_of s form).inside (walk columns y (step_of s form).opening)))
    unfolding walk
    walk_is = refl

    pub other_bound : ((variable : ℕ) (binder : Binder) → form ≡ Binds variable binder → ⊥) → (walk columns (branch i form x y z) s).scope ≡ s
    other_bound other = ap (λ (found : Found). found.scope) walk_is ∙ leaves s form other _

-- What each call leaves, from what its calls left.
module _ (columns : ℕ → ℕ) (s : Scope) (l : Lowest) where
  pub none_walked : record { width = 0; scope = s; lowest = places l } ≡ walked columns nothing s (places l)
  none_walked = rw (none_is columns s, none_lowered l)

  pub none_bound : record { scope = s; lowest = places l } ≡ bindings_walked columns nothing s (places l)
  none_bound = rw (none_is columns s, none_lowered l)

  -- an alpha: its parts in a scope of their own
  pub alpha-walked : (i : ℕ) (x y z : Tree) {empty own own' own'' : Scope} {a b c d : Places} {width other result : ℕ} → empty ≡ no_widths
      → record { scope = own; lowest = a } ≡ bindings_walked columns y empty (places l)
      → record { width = width; scope = own'; lowest = b } ≡ walked columns x own a
      → record { width = other; scope = own''; lowest = c } ≡ walked columns z own' b
      → record { width = result; lowest = d } ≡ judged_at columns Alpha i s width 0 0 c
      → record { width = result; scope = s; lowest = d } ≡ walked columns (branch i Alpha x y z) s (places l)
  alpha-walked i x y z {empty} {own} {own'} {own''} {a} {b} {c} {d} {width} {other} {result} begins walked_on targets condition judged =
      let bound : record { scope = own; lowest = a } ≡ bindings_walked columns y no_widths (places l) = rw begins at walked_on in
      let F : Found = walk columns y no_widths in
      let S : Found = walk columns x F.scope in
      let T : Found = walk columns z F.scope in
      let e : own ≡ F.scope = ap (λ (w : BindingsWalked). w.scope) bound in
      let e' : own' ≡ F.scope = ap (λ (w : Walked). w.scope) targets ∙ e in
      let w : width ≡ S.width = ap (λ (w : Walked). w.width) targets ∙ rw e in
      let A : a ≡ lowered (places l) F.unbound F.unfit = ap (λ (w : BindingsWalked). w.lowest) bound in
      let B : b ≡ lowered a S.unbound S.unfit = ap (λ (w : Walked). w.lowest) targets ∙ rw e in
      let C : c ≡ lowered b T.unbound T.unfit = ap (λ (w : Walked). w.lowest) condition ∙ rw e' in
      let p : ℕ = place_of (step_of s Alpha).unbound i in
      let q : ℕ = place_of ((step_of s Alpha).unfit S.width F.width) i in
      let D : d ≡ lowered (lowered (lowered (lowered (places l) F.unbound F.unfit) S.unbound S.unfit) T.unbound T.unfit) p q = ap (λ (j : JudgedAt). j.lowest) judged ∙ rw (w, C, B, A) in
      let k : result ≡ S.width = ap (λ (j : JudgedAt). j.width) judged ∙ w in
      rw (D, k, all_lowered (places l) p q S F T, walk_is columns s i Alpha x y z)

  -- a binder: its c sees what it binds, and then it is bound no more
  pub binder_walked : (i v : ℕ) (binder : Binder) (x y z : Tree) {after after' inner back : Scope} {a c d : Places} {second third result : ℕ} → x ≡ nothing
      → record { width = second; scope = after; lowest = a } ≡ walked columns y s (places l)
      → inner ≡ bind after v second
      → record { width = third; scope = after'; lowest = c } ≡ walked columns z inner a
      → back ≡ record { widths = set after'.widths v (get_or after.widths v 0); columns = after.columns }
      → record { width = result; lowest = d } ≡ judged_at columns (Binds v binder) i back 0 second third c
      → record { width = result; scope = back; lowest = d } ≡ walked columns (branch i (Binds v binder) x y z) s (places l)
  binder_walked i v binder x y z {after} {after'} {inner} {back} {a} {c} {d} {second} {third} {result} none one binds three again judged =
      let F : Found = walk columns y s in
      let T : Found = walk columns z (bind s v F.width) in
      let f : second ≡ F.width = ap (λ (w : Walked). w.width) one in
      let k : after ≡ s = ap (λ (w : Walked). w.scope) one in
      let e : inner ≡ bind s v F.width = binds ∙ rw (k, f) in
      let same : back ≡ s = again ∙ rw (ap (λ (w : Walked). w.scope) three, e, k, set_back s v F.width) in
      let A : a ≡ lowered (places l) F.unbound F.unfit = ap (λ (w : Walked). w.lowest) one in
      let C : c ≡ lowered a T.unbound T.unfit = ap (λ (w : Walked). w.lowest) three ∙ rw e in
      let p : ℕ = place_of (step_of s (Binds v binder)).unbound i in
      let q : ℕ = place_of ((step_of s (Binds v binder)).unfit 0 F.width) i in
      let D : d ≡ lowered (lowered (lowered (places l) F.unbound F.unfit) T.unbound T.unfit) p q = ap (λ (j : JudgedAt). j.lowest) judged ∙ rw (same, f, C, A) in
      let r : result ≡ 0 = ap (λ (j : JudgedAt). j.width) judged in
      rw (none, D, r, same, binder_lowered l p q F T, walk_is columns s i (Binds v binder) nothing y z, none_is columns (bind s v F.width))

  -- any other node: its parts see what it sees
  pub node_walked : (i : ℕ) (form : Form) (x y z : Tree) {after after' after'' : Scope} {a b c d : Places} {first second third result : ℕ}
      → (form ≡ Alpha → ⊥) → ((variable : ℕ) (binder : Binder) → form ≡ Binds variable binder → ⊥)
      → record { width = second; scope = after; lowest = a } ≡ walked columns y s (places l)
      → record { width = first; scope = after'; lowest = b } ≡ walked columns x after a
      → record { width = third; scope = after''; lowest = c } ≡ walked columns z after' b
      → record { width = result; lowest = d } ≡ judged_at columns form i after'' first second third c
      → record { width = result; scope = after''; lowest = d } ≡ walked columns (branch i form x y z) s (places l)
  node_walked i form x y z {after} {after'} {after''} {a} {b} {c} {d} {first} {second} {third} {result} other unbinding one two three judged =
      let F : Found = walk columns y s in
      let S : Found = walk columns x s in
      let T : Found = walk columns z s in
      let k : after ≡ s = ap (λ (w : Walked). w.scope) one in
      let k' : after' ≡ s = ap (λ (w : Walked). w.scope) two ∙ k in
      let k'' : after'' ≡ s = ap (λ (w : Walked). w.scope) three ∙ k' in
      let f : second ≡ F.width = ap (λ (w : Walked). w.width) one in
      let g : first ≡ S.width = ap (λ (w : Walked). w.width) two ∙ rw k in
      let h : third ≡ T.width = ap (λ (w : Walked). w.width) three ∙ rw k' in
      let A : a ≡ lowered (places l) F.unbound F.unfit = ap (λ (w : Walked). w.lowest) one in
      let B : b ≡ lowered a S.unbound S.unfit = ap (λ (w : Walked). w.lowest) two ∙ rw k in
      let C : c ≡ lowered b T.unbound T.unfit = ap (λ (w : Walked). w.lowest) three ∙ rw k' in
      let p : ℕ = place_of (step_of s form).unbound i in
      let q : ℕ = place_of ((step_of s form).unfit S.width F.width) i in
      let D : d ≡ lowered (lowered (lowered (lowered (places l) F.unbound F.unfit) S.unbound S.unfit) T.unbound T.unfit) p q = ap (λ (j : JudgedAt). j.lowest) judged ∙ rw (k'', f, g, C, B, A) in
      let r : result ≡ (step_of s form).width columns S.width T.width = ap (λ (j : JudgedAt). j.width) judged ∙ rw (k'', g, h) in
      rw (D, r, k'', all_lowered (places l) p q S F T, walk_is columns s i form x y z, opens s form other, stays s form other unbinding F)

  -- a binding, and those behind it
  pub binding_walked : (i v : ℕ) (binder : Binder) (x y z : Tree) {second result : ℕ} {after after' inner : Scope} {a b c : Places} → x ≡ nothing
      → record { width = second; scope = after; lowest = a } ≡ walked columns y s (places l)
      → record { width = result; lowest = b } ≡ judged_at columns (Binds v binder) i after 0 second 0 a
      → inner ≡ bind after v second
      → record { scope = after'; lowest = c } ≡ bindings_walked columns z inner b
      → record { scope = after'; lowest = c } ≡ bindings_walked columns (branch i (Binds v binder) x y z) s (places l)
  binding_walked i v binder x y z {second} {result} {after} {after'} {inner} {a} {b} {c} none one judged binds behind =
      let F : Found = walk columns y s in
      let S : Found = walk columns z inner in
      let f : second ≡ F.width = ap (λ (w : Walked). w.width) one in
      let k : after ≡ s = ap (λ (w : Walked). w.scope) one in
      let e : inner ≡ bind s v F.width = binds ∙ rw (k, f) in
      let p : ℕ = place_of (step_of s (Binds v binder)).unbound i in
      let q : ℕ = place_of ((step_of s (Binds v binder)).unfit 0 F.width) i in
      let A : a ≡ lowered (places l) F.unbound F.unfit = ap (λ (w : Walked). w.lowest) one in
      let B : b ≡ lowered a p q = ap (λ (j : JudgedAt). j.lowest) judged ∙ rw (k, f) in
      let D : c ≡ lowered (lowered (lowered (places l) F.unbound F.unfit) p q) S.unbound S.unfit = ap (λ (w : BindingsWalked). w.lowest) behind ∙ rw (B, A) in
      let g : after' ≡ S.scope = ap (λ (w : BindingsWalked). w.scope) behind in
      rw (none, D, g, binding_lowered l p q F S, walk_is columns s i (Binds v binder) nothing y z, ← e, none_is columns inner)

  -- any other node, among bindings
  pub other_walked : (tree : Tree) {width : ℕ} {after : Scope} {a : Places} → (walk columns tree s).scope ≡ s → record { width = width; scope = after; lowest = a } ≡ walked columns tree s (places l)
      → record { scope = after; lowest = a } ≡ bindings_walked columns tree s (places l)
  other_walked tree e one = rw (ap (λ (w : Walked). w.scope) one, ap (λ (w : Walked). w.lowest) one, e)

part-within : (p a b : ℕ) → a ≤ question_node_limit → min p (min a b) ≤ question_node_limit
part-within p a b h = omega arith

-- no place that is found is above the limit, so the places from there on are those of the tree
module _ (columns : ℕ → ℕ) where
  record Within (found : Found) : Type 0 where
    unbound-within : found.unbound ≤ question_node_limit
    unfit-within : found.unfit ≤ question_node_limit

  found_within : (tree : Tree) (s : Scope) → Within (walk columns tree s)
  unfolding walk
  found_within nothing s = record { unbound-within = omega arith; unfit-within = omega arith }
  found_within (branch i form x y z) s =
      let within = found_within x ((step_of s form).inside (walk columns y (step_of s form).opening)) in
      record { unbound-within = part-within _ _ _ within.unbound-within; unfit-within = part-within _ _ _ within.unfit-within }

  pub lowest_found : (tree : Tree) (s : Scope) {width : ℕ} {after : Scope} {start a : Places} → start ≡ no_places → record { width = width; scope = after; lowest = a } ≡ walked columns tree s start
      → (a.unbound ≡ (walk columns tree s).unbound) × (a.unfit ≡ (walk columns tree s).unfit)
  lowest_found tree s {a = a} none one =
      let low : a ≡ lowered no_places (walk columns tree s).unbound (walk columns tree s).unfit = ap (λ (w : Walked). w.lowest) one ∙ rw none in
      let within = found_within tree s in
      rw low (omega (arith, within.unbound-within), omega (arith, within.unfit-within))
