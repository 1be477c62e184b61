-- The first line that is given: laws of any list of lines. Assumes nothing.
use Prim.Native.Nat.{ℕ}
use mathlib.Core.Path.{◌≡◌, refl, sym, ap, ◌∙◌}
use mathlib.Core.Bool.{Bool, true, false, cond, not, So}
use mathlib.Core.List.{List, [], ◌∷◌}
use lib.Dec.{eqb}
use borrow.Author.Tests.{not-true, eqb-false}
use Rattle.relations.specs.Lists.{all}
use Rattle.relations.proofs.BoolLaws.{and_left, and_right}
use Rattle.demands.specs.Refusals.{Line, outcome_by}
use Rattle.demands.specs.Demands.{NoneGiven, AnsweredExactly}

-- a test that refuses, and the same test that goes on
pub turned : {A : Type 0} (b : Bool) (x y : A) → cond b x y ≡ cond (not b) y x
turned true x y = refl
turned false x y = refl

cond_of : {A B : Type 0} (f : A → B) (b : Bool) (x y : A) → f (cond b x y) ≡ cond b (f x) (f y)
cond_of f true x y = refl
cond_of f false x y = refl

cond-behind : {A : Type 0} (b : Bool) (x y z : A) → (b ≡ false → y ≡ z) → cond b x y ≡ cond b x z
cond-behind true x y z same = refl
cond-behind false x y z same = same refl

module _ {A : Type 0} where
  pub none_answered : (lines : List Line) (refused : (status place : ℕ) → A) (answered : A) → NoneGiven lines → outcome_by lines refused answered ≡ answered
  none_answered [] refused answered none = refl
  none_answered (l ∷ lines) refused answered none = rw none.0 (none_answered lines refused answered none.1)

  -- what a function makes of an outcome
  pub outcome_of : {B : Type 0} (f : A → B) (lines : List Line) (refused : (status place : ℕ) → A) (answered : A)
      → f (outcome_by lines refused answered) ≡ outcome_by lines (λ status place. f (refused status place)) (f answered)
  outcome_of f [] refused answered = refl
  outcome_of f (l ∷ lines) refused answered =
      cond_of f l.given (refused l.status l.place) (outcome_by lines refused answered)
      ∙ ap (cond l.given (f (refused l.status l.place))) (outcome_of f lines refused answered)

  -- what comes behind the lines matters only where none of them is given
  pub outcome-behind : (lines : List Line) (refused : (status place : ℕ) → A) (one other : A) → (NoneGiven lines → one ≡ other) → outcome_by lines refused one ≡ outcome_by lines refused other
  outcome-behind [] refused one other same = same tt
  outcome-behind (l ∷ lines) refused one other same =
      cond-behind l.given (refused l.status l.place) (outcome_by lines refused one) (outcome_by lines refused other)
      (λ given. outcome-behind lines refused one other (λ none. same (given, none)))

  module _ (status : A → ℕ) (refused : (number place : ℕ) → A) (numbered : (number place : ℕ) → status (refused number place) ≡ number) (answered : A) where
    -- a number that no line has is the answer's, and no line is given
    pub not_refused : (number : ℕ) (lines : List Line) → So (all (λ l. not (eqb l.status number)) lines) → status (outcome_by lines refused answered) ≡ number
        → NoneGiven lines × (status answered ≡ number)
    not_refused number [] others h = (tt, h)
    not_refused number (l ∷ lines) others h = go l.given refl h (λ more. not_refused number lines (and_right (not (eqb l.status number)) (all (λ l. not (eqb l.status number)) lines) others) more)
      where
        other : eqb l.status number ≡ false
        other = not-true (eqb l.status number) (and_left (not (eqb l.status number)) (all (λ l. not (eqb l.status number)) lines) others)

        go : (given : Bool) → l.given ≡ given → status (cond given (refused l.status l.place) (outcome_by lines refused answered)) ≡ number
            → (status (outcome_by lines refused answered) ≡ number → NoneGiven lines × (status answered ≡ number)) → NoneGiven (l ∷ lines) × (status answered ≡ number)
        go true given h rest = absurd (eqb-false l.status number other (sym (numbered l.status l.place) ∙ h))
        go false given h rest = ((given, (rest h).0), (rest h).1)

    -- no line's number is 0, and the answer's is
    pub answered-exactly : (lines : List Line) → So (all (λ l. not (eqb l.status 0)) lines) → status answered ≡ 0 → AnsweredExactly (status (outcome_by lines refused answered)) lines
    answered-exactly lines others good = (λ h. (not_refused 0 lines others h).0, λ none. ap status (none_answered lines refused answered none) ∙ good)
