use Rattle.std.proofs.Common.{◌≡◌, refl, sym, ap, ◌∙◌}
use Rattle.terms.specs.Terms.{operator_in}
use Rattle.terms.specs.declared.operator.Operator.{Operator}
use Rattle.terms.specs.declared.operator.Operator.TheVariants.{Equal, NotEqual, Less, AtMost, Greater, AtLeast}
use Rattle.nodes.specs.Nodes.{coded}
use Rattle.nodes.specs.declared.node.Form.TheVariants.{Compares}
use Rattle.nodes.proofs.node.compares.Goals as goal

coded_back : (o : Operator) → coded (operator_in o) ≡ o
coded_back Equal = refl
coded_back NotEqual = refl
coded_back Less = refl
coded_back AtMost = refl
coded_back Greater = refl
coded_back AtLeast = refl

pub returns : goal.returns
returns c = ap (λ (o : Operator). Compares (record { variable = c.args.variable; attribute = record { 0 = c.args.attribute }; operator = o; operand = c.args.operand })) (sym (coded_back c.from.result) ∙ ap coded c.from.ensures)
