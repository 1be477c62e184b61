use Rattle.std.proofs.Common.{rules}
use Rattle.values.proofs.MakeLaws.{builds_makes}
use Rattle.plan_reading.specs.declared.nodes.Operation.TheVariants.{Load, Project, SelectConstant, SelectAttribute, Join, Semijoin, Antijoin, Divide, Unite, Intersect, Subtract, Tally}
use Rattle.node_values.proofs.NodeLaws.{asks, makes}
use Rattle.node_values.proofs.node.make_value.Goals as goal

pub load_relation-requires : goal.load_relation-requires
load_relation-requires c = let a = asks c.requires c.value_at-left.ensures c.value_at-right.ensures Load c.in-Load.is in search rules

pub project-requires : goal.project-requires
project-requires c = let a = asks c.requires c.value_at-left.ensures c.value_at-right.ensures Project c.in-Project.is in search rules

pub select_by_constant-requires : goal.select_by_constant-requires
select_by_constant-requires c = let a = asks c.requires c.value_at-left.ensures c.value_at-right.ensures SelectConstant c.in-SelectConstant.is in search rules

pub select_by_attribute-requires : goal.select_by_attribute-requires
select_by_attribute-requires c = let a = asks c.requires c.value_at-left.ensures c.value_at-right.ensures SelectAttribute c.in-SelectAttribute.is in search rules

pub join-requires : goal.join-requires
join-requires c = let a = asks c.requires c.value_at-left.ensures c.value_at-right.ensures Join c.in-Join.is in search rules

pub semijoin-requires : goal.semijoin-requires
semijoin-requires c = let a = asks c.requires c.value_at-left.ensures c.value_at-right.ensures Semijoin c.in-Semijoin.is in search rules

pub antijoin-requires : goal.antijoin-requires
antijoin-requires c = let a = asks c.requires c.value_at-left.ensures c.value_at-right.ensures Antijoin c.in-Antijoin.is in search rules

pub divide-requires : goal.divide-requires
divide-requires c = let a = asks c.requires c.value_at-left.ensures c.value_at-right.ensures Divide c.in-Divide.is in search rules

pub unite-requires : goal.unite-requires
unite-requires c = let a = asks c.requires c.value_at-left.ensures c.value_at-right.ensures Unite c.in-Unite.is in search rules

pub intersect-requires : goal.intersect-requires
intersect-requires c = let a = asks c.requires c.value_at-left.ensures c.value_at-right.ensures Intersect c.in-Intersect.is in search rules

pub subtract-requires : goal.subtract-requires
subtract-requires c = let a = asks c.requires c.value_at-left.ensures c.value_at-right.ensures Subtract c.in-Subtract.is in search rules

pub bounds-list-0 : goal.bounds-list-0
bounds-list-0 c = let a = asks c.requires c.value_at-left.ensures c.value_at-right.ensures Tally c.in-Tally.is in a.3

pub tally-requires : goal.tally-requires
tally-requires c = let a = asks c.requires c.value_at-left.ensures c.value_at-right.ensures Tally c.in-Tally.is in search rules

pub returns-in-Load : goal.returns-in-Load
returns-in-Load c = makes c.requires c.value_at-left.ensures c.value_at-right.ensures Load c.in-Load.is c.load_relation.ensures

pub returns-in-Project : goal.returns-in-Project
returns-in-Project c = makes c.requires c.value_at-left.ensures c.value_at-right.ensures Project c.in-Project.is c.project.ensures

pub returns-in-SelectConstant : goal.returns-in-SelectConstant
returns-in-SelectConstant c = makes c.requires c.value_at-left.ensures c.value_at-right.ensures SelectConstant c.in-SelectConstant.is (builds_makes c.requires.stand.inside c.requires.stand.blank c.select_by_constant.ensures c.finish.ensures)

pub returns-in-SelectAttribute : goal.returns-in-SelectAttribute
returns-in-SelectAttribute c = makes c.requires c.value_at-left.ensures c.value_at-right.ensures SelectAttribute c.in-SelectAttribute.is (builds_makes c.requires.stand.inside c.requires.stand.blank c.select_by_attribute.ensures c.finish-in-SelectAttribute.ensures)

pub returns-in-Join : goal.returns-in-Join
returns-in-Join c = makes c.requires c.value_at-left.ensures c.value_at-right.ensures Join c.in-Join.is (builds_makes c.requires.stand.inside c.requires.stand.blank c.join.ensures c.finish-in-Join.ensures)

pub returns-in-Semijoin : goal.returns-in-Semijoin
returns-in-Semijoin c = makes c.requires c.value_at-left.ensures c.value_at-right.ensures Semijoin c.in-Semijoin.is c.semijoin.ensures

pub returns-in-Antijoin : goal.returns-in-Antijoin
returns-in-Antijoin c = makes c.requires c.value_at-left.ensures c.value_at-right.ensures Antijoin c.in-Antijoin.is c.antijoin.ensures

pub returns-in-Divide : goal.returns-in-Divide
returns-in-Divide c = makes c.requires c.value_at-left.ensures c.value_at-right.ensures Divide c.in-Divide.is (builds_makes c.requires.stand.inside c.requires.stand.blank c.divide.ensures c.finish-in-Divide.ensures)

pub returns-in-Unite : goal.returns-in-Unite
returns-in-Unite c = makes c.requires c.value_at-left.ensures c.value_at-right.ensures Unite c.in-Unite.is c.unite.ensures

pub returns-in-Intersect : goal.returns-in-Intersect
returns-in-Intersect c = makes c.requires c.value_at-left.ensures c.value_at-right.ensures Intersect c.in-Intersect.is (builds_makes c.requires.stand.inside c.requires.stand.blank c.intersect.ensures c.finish-in-Intersect.ensures)

pub returns-in-Subtract : goal.returns-in-Subtract
returns-in-Subtract c = makes c.requires c.value_at-left.ensures c.value_at-right.ensures Subtract c.in-Subtract.is (builds_makes c.requires.stand.inside c.requires.stand.blank c.subtract.ensures c.finish-in-Subtract.ensures)

pub returns-in-Tally : goal.returns-in-Tally
returns-in-Tally c = makes c.requires c.value_at-left.ensures c.value_at-right.ensures Tally c.in-Tally.is (builds_makes c.requires.stand.inside c.requires.stand.blank c.tally.ensures c.finish-in-Tally.ensures)
