-- Demand 1 of read and write: each leaves what the first of its lines says, and line 12 is what texts alone say of it. Assumes nothing.
use Prim.Native.Nat.{ℕ, zero, suc, ◌≤◌, ◌<◌}
use mathlib.Core.Path.{◌≡◌, refl, ap}
use mathlib.Core.Bool.{true, false, cond}
use mathlib.Core.List.{List}
use native.Mathlib.Omega.{arith}
use lib.Dec.{eqb}
use lib.ListN.{length}
use borrow.Author.Tests.{lt-ltb}
use Rattle.relations.specs.Limits.{byte_limit}
use Rattle.bundles.specs.Reading.{Bundle, bundle_in}
use Rattle.lines.specs.Reading.{Next, goes_on, wrong_at}
use Rattle.bundles.specs.ReadCall.{ReadOutcome, read_refused, bundle_outcome, small_buffers, read_outcome}
use Rattle.bundles.specs.Writing.{bundle_text}
use Rattle.bundles.specs.WriteCall.{WriteOutcome, write_outcome}
use Rattle.bundles.specs.RoundTrip.{wrote, BundleAsText}
use Rattle.bundles.specs.FirstWrong.{RightText, FirstWrong}
use Rattle.bundles.proofs.RoundTrip.{round_trip}
use Rattle.bundles.proofs.FirstWrong.{place_is_first-wrong}
use Rattle.demands.specs.Refusals.{outcome_by, is_wrong, place_wrong, read_lines, write_lines}
use Rattle.demands.specs.Demands.{WrongText, read_bundle, ReadDemand, refused_write, WriteDemand}
use Rattle.demands.proofs.LineLaws.{answered-exactly}

module _ (text : List ℕ) where
  right-text : (next : Next) → (bundle_in text).next ≡ next → is_wrong next ≡ false → (length text ≤ byte_limit) × RightText text
  right-text (wrong_at line) is e = let never : ◌≡◌ {A = ℕ} 0 1 = cc in absurd (omega arith)
  right-text (goes_on line rest) is e =
      let found : BundleAsText text (bundle_in text) rest = round_trip.text_of_reading text line rest is in (
        found.short-text,
        record {
          mode = (bundle_in text).mode;
          catalogue = (bundle_in text).catalogue;
          tables = (bundle_in text).tables;
          nodes = (bundle_in text).nodes;
          tables_ok_lem = found.tables_ok_lem;
          nodes_ok_lem = found.nodes_ok_lem;
          tables_32 = found.tables_32;
          nodes_32 = found.nodes_32;
          text_is = found.text_is;
        },
      )

  not_wrong : length text ≤ byte_limit → RightText text → is_wrong (bundle_in text).next ≡ false
  not_wrong short right =
      rw (← right.text_is)
      (ap (λ (b : Bundle). is_wrong b.next)
      (round_trip.reading_of_text right.mode right.catalogue right.tables right.nodes right.tables_ok_lem right.nodes_ok_lem right.tables_32 right.nodes_32 (rw right.text_is short)))

  over_limit : byte_limit < length text → place_wrong (bundle_in text).next ≡ 0
  unfolding bundle_in
  over_limit over = rw (lt-ltb byte_limit (length text) over)

  first-wrong : length text ≤ byte_limit → (next : Next) → (bundle_in text).next ≡ next → is_wrong next ≡ true → FirstWrong text (place_wrong next)
  first-wrong short (goes_on line rest) is e = let never : ◌≡◌ {A = ℕ} 0 1 = cc in absurd (omega arith)
  first-wrong short (wrong_at line) is e = place_is_first-wrong.place text line short is

  wrong-text : WrongText text
  wrong-text =
      record {
        right = right-text (bundle_in text).next refl;
        passed = not_wrong;
        over = over_limit;
        first = λ short. first-wrong short (bundle_in text).next refl;
      }

-- "mode (1 for short)"
mode_is : (mode : ℕ) → mode ≤ 1 → cond (eqb mode 0) 0 1 ≡ mode
mode_is zero few = refl
mode_is (suc zero) few = refl
mode_is (suc (suc more)) few = absurd (omega arith)

module _ (text catalogue tables question : List ℕ) where
  read_table : read_outcome text catalogue tables question ≡ outcome_by (read_lines text catalogue tables question) (read_refused catalogue tables question) (read_bundle text catalogue tables question)
  unfolding read_outcome
  read_table = ap (cond (small_buffers catalogue tables question) (read_refused catalogue tables question 14 0)) (go (bundle_in text).next refl)
    where
      go : (next : Next) → (bundle_in text).next ≡ next
          → bundle_outcome catalogue tables question (bundle_in text) next ≡ cond (is_wrong next) (read_refused catalogue tables question 12 (place_wrong next)) (read_bundle text catalogue tables question)
      go (wrong_at line) is = refl
      go (goes_on line rest) is = rw (mode_is (bundle_in text).mode (round_trip.text_of_reading text line rest is).mode-number)

  pub read_demand : ReadDemand text catalogue tables question
  read_demand =
      record {
        table = read_table;
        exactly = rw read_table (answered-exactly (λ (left : ReadOutcome). left.numbers.status) (read_refused catalogue tables question) (λ number place. refl) (read_bundle text catalogue tables question) (read_lines text catalogue tables question) refl refl);
        wrong = wrong-text text;
      }

module _ (mode : ℕ) (catalogue tables question text : List ℕ) where
  write_table : write_outcome mode catalogue tables question text
      ≡ outcome_by (write_lines mode catalogue tables question text) (refused_write text) (wrote (bundle_text mode catalogue tables question) text)
  unfolding write_outcome
  write_table = refl

  pub write_demand : WriteDemand mode catalogue tables question text
  write_demand =
      record {
        table = write_table;
        exactly = rw write_table (answered-exactly (λ (left : WriteOutcome). left.numbers.status) (refused_write text) (λ number place. refl) (wrote (bundle_text mode catalogue tables question) text) (write_lines mode catalogue tables question text) refl refl);
      }
