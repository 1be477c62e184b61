use Rattle.std.proofs.Common.{◌≡◌, ◌∙◌, ◌++◌, ◌&&◌, ℕ, List, sym, ap, arith, length, length-append, take}
use Rattle.std.proofs.lemmas.List.{length-take-le}
use Rattle.relations.specs.Columns.{Triple, meets}
use Rattle.operations.specs.Lists.{triples_of}
use Rattle.operations.proofs.ListLaws.{triples_none}
use Rattle.partners.specs.Sieves.{sifts}
use Rattle.partners.proofs.SieveLaws.{filled_step, and_true}
use Rattle.partners.proofs.sieve.fill.Goals as goal

pub loop-words-preserved : goal.loop-words-preserved
loop-words-preserved c = let l = c.loop-words in let steps = c.in-Some.ensures.steps in let words = c.in-Some.words.now in let rest = c.next.new.self.rest.now in
    let rests : l.words-iterator.rest.now ≡ words ++ rest = steps.1.0 in
    let three : length words ≡ 3 = steps.1.1 ∙ l.invariant.size in record {
      size = steps.0 ∙ l.invariant.size;
      fits = omega (arith, c.narrow-made.ensures.most, length-take-le l.made l.room (omega (arith, l.invariant.fits)), l.invariant.fits, ap length rests, length-append words rest);
      same = λ right.
          filled_step c.triple_at-triple.result c.args.row.now words rest c.column_of.result l.made c.narrow-made.result c.of-span.result l.room c.narrow-made.new.sieve three c.triple_at-triple.ensures c.column_of.ensures c.of-span.ensures c.narrow-made.ensures right
          ∙ ap (λ (left : List ℕ). sifts (take l.made l.room) right && meets (triples_of left) c.args.row.now right) (sym rests)
          ∙ l.invariant.same right;
    }

pub returns : goal.returns
returns c = let l = c.loop-words in
    record {
      same = λ right.
          and_true (sifts (take l.made l.room) right)
          ∙ ap (λ (triples : List Triple). sifts (take l.made l.room) right && meets triples c.args.row.now right) (sym (triples_none l.words-iterator.rest.now (omega (arith, c.in-None.ensures.steps.1.0, l.invariant.size))))
          ∙ l.invariant.same right;
    }
