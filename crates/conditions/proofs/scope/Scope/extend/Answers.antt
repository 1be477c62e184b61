use Rattle.conditions.proofs.ScopeLaws.{extended}
use Rattle.conditions.specs.Scopes.{with_variable}
use Rattle.conditions.proofs.scope.Scope.extend.Goals as goal

pub returns : goal.returns
unfolding with_variable
returns c = extended c.args.self.now c.args.variable c.args.width c.requires.0 c.requires.1 c.requires.2 c.requires.3
