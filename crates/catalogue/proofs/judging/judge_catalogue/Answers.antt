use Rattle.std.proofs.Common.{◌≡◌, sym, ap, length, ◌∙◌, arith, true, false, slice_index_or}
use Rattle.std.specs.Slice.Iter.{chunks_exact_rest}
use Rattle.catalogue.specs.Judging.{pair_ok}
use Rattle.catalogue.proofs.Judgements.{good_pair}
use Rattle.catalogue.proofs.PairLaws.{pair_front, none_left, pairs-good, pairs_bad, pairs_odd, pairs_end, words_pair, words_end, refused_long, refused_pairs, accepted_words, refused_words}
use Rattle.catalogue.proofs.judging.judge_catalogue.Goals.{then-catalogue-gt-CATALOGUE_WORDS-via-then-catalogue-gt-CATALOGUE_WORDS, then-catalogue-gt-CATALOGUE_WORDS-via-else-catalogue-gt-CATALOGUE_WORDS+then-catalogue-ne0}
use Rattle.catalogue.proofs.judging.judge_catalogue.Goals as goal

pub returns-then-catalogue-gt-CATALOGUE_WORDS : goal.returns-then-catalogue-gt-CATALOGUE_WORDS
returns-then-catalogue-gt-CATALOGUE_WORDS c = elim c.then-catalogue-gt-CATALOGUE_WORDS.branch [ then-catalogue-gt-CATALOGUE_WORDS-via-then-catalogue-gt-CATALOGUE_WORDS w ↦ refused_long c.args.catalogue.now (omega arith) | then-catalogue-gt-CATALOGUE_WORDS-via-else-catalogue-gt-CATALOGUE_WORDS+then-catalogue-ne0 w ↦ refused_pairs c.args.catalogue.now (pairs_odd c.args.catalogue.now (λ even. omega arith)) ]

pub returns-then-not-pair_ok : goal.returns-then-not-pair_ok
returns-then-not-pair_ok c = let inv = c.loop-pair.invariant in
    let steps = c.in-Some.ensures.steps in
    refused_pairs c.args.catalogue.now (inv.ok ∙ pairs_bad _ _ _ _ (pair_front c.in-Some.pair.now (steps.1.1 ∙ inv.pairs) steps.1.0) (sym c.pair_ok.ensures ∙ c.if-not-pair_ok.true))

pub loop-pair-preserved : goal.loop-pair-preserved
loop-pair-preserved c = let inv = c.loop-pair.invariant in
    let steps = c.in-Some.ensures.steps in
    let columns = slice_index_or c.in-Some.pair.now 0 0 in
    let rows = slice_index_or c.in-Some.pair.now 1 0 in
    let ok : pair_ok columns rows ≡ true = sym c.pair_ok.ensures ∙ c.if-not-pair_ok.false in
    let front = pair_front c.in-Some.pair.now (steps.1.1 ∙ inv.pairs) steps.1.0 in
    let two = ap length front in
    record {
      pairs = steps.0 ∙ inv.pairs;
      even = omega (arith, two, inv.even);
      room = omega (arith, two, inv.room, (good_pair columns rows ok).words-few);
      ok = inv.ok ∙ pairs-good _ _ _ _ front ok;
      sum = omega (arith, inv.sum, words_pair _ _ _ _ front);
    }

pub returns-then-words-le-WORDS : goal.returns-then-words-le-WORDS
returns-then-words-le-WORDS c = let inv = c.loop-pair.invariant in
    let none = none_left (chunks_exact_rest c.loop-pair.pair-iterator) (omega (arith, inv.pairs, c.in-None.ensures.steps.1.0)) inv.even in
    accepted_words c.args.catalogue.now (omega arith) (inv.ok ∙ pairs_end _ none) (omega (arith, inv.sum, words_end _ none)) (omega arith)

pub returns-else-words-le-WORDS : goal.returns-else-words-le-WORDS
returns-else-words-le-WORDS c = let inv = c.loop-pair.invariant in
    let none = none_left (chunks_exact_rest c.loop-pair.pair-iterator) (omega (arith, inv.pairs, c.in-None.ensures.steps.1.0)) inv.even in
    refused_words c.args.catalogue.now (omega arith) (inv.ok ∙ pairs_end _ none) {words = c.loop-pair.words} (omega (arith, inv.sum, words_end _ none)) (omega arith)
