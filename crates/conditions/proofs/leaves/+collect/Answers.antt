use Rattle.nodes.specs.Nodes.{node_at}
use Rattle.nodes.specs.declared.node.Connective.TheVariants.{And, Or, Not}
use Rattle.nodes.specs.declared.node.Form.TheVariants.{Compares, Connects}
use Rattle.conditions.specs.Readings.{reading_at}
use Rattle.conditions.proofs.Readings.{made, made_is, condition_is, and_parts, or_parts}
use Rattle.conditions.proofs.OtherNodes.{not_leaves, no_leaves}
use Rattle.conditions.proofs.LeafLaws.{leaf_numbers_lem, and_numbers, or_numbers, collected_and, collected_or, collected_none, collected_leaf, collect_left, collect_right}
use lib.ListN.{length}
use mathlib.Core.Path.{◌≡◌, ap, ◌∙◌}
use native.Mathlib.Omega.{arith}
use Prim.Native.Nat.{◌-◌}
use Rattle.conditions.proofs.leaves.+collect.Goals as goal

pub push-requires : goal.push-requires
push-requires t c =
    let e : made (Compares _) _ _ _ ≡ node_at c.args.words.now (c.args.reference - 1) = made_is c.args.words.now (c.args.reference - 1) c.in-Compares.is c.decode-node.ensures in
    omega (arith, c.requires.room, ap length (leaf_numbers_lem c.args.words.now c.args.reference _ c.requires.named e (condition_is c.args.words.now c.args.reference _ c.requires.named e)))

pub collect-first-requires : goal.collect-first-requires
collect-first-requires t c =
    let e : made (Connects And) _ _ _ ≡ node_at c.args.words.now (c.args.reference - 1) = made_is c.args.words.now (c.args.reference - 1) (c.in-Connects.is ∙ ap Connects c.in-And.is) c.decode-node.ensures in
    let p = and_parts c.args.words.now c.args.reference (c.requires.named, c.requires.inside) e in
    (omega (arith, c.decreases, p.0.1), collect_left c.args.words.now c.requires (and_numbers c.args.words.now c.requires.named _ _ _ e) p)

pub collect-second-requires : goal.collect-second-requires
collect-second-requires t c =
    let e : made (Connects And) _ _ _ ≡ node_at c.args.words.now (c.args.reference - 1) = made_is c.args.words.now (c.args.reference - 1) (c.in-Connects.is ∙ ap Connects c.in-And.is) c.decode-node.ensures in
    let p = and_parts c.args.words.now c.args.reference (c.requires.named, c.requires.inside) e in
    (omega (arith, c.decreases, p.1.1), collect_right c.args.words.now c.requires (and_numbers c.args.words.now c.requires.named _ _ _ e) p c.collect-first.ensures.0)

pub collect-first-requires-in-Or : goal.collect-first-requires-in-Or
collect-first-requires-in-Or t c =
    let e : made (Connects Or) _ _ _ ≡ node_at c.args.words.now (c.args.reference - 1) = made_is c.args.words.now (c.args.reference - 1) (c.in-Connects.is ∙ ap Connects c.in-Or.is) c.decode-node.ensures in
    let p = or_parts c.args.words.now c.args.reference (c.requires.named, c.requires.inside) e in
    (omega (arith, c.decreases, p.0.1), collect_left c.args.words.now c.requires (or_numbers c.args.words.now c.requires.named _ _ _ e) p)

pub collect-second-requires-in-Or : goal.collect-second-requires-in-Or
collect-second-requires-in-Or t c =
    let e : made (Connects Or) _ _ _ ≡ node_at c.args.words.now (c.args.reference - 1) = made_is c.args.words.now (c.args.reference - 1) (c.in-Connects.is ∙ ap Connects c.in-Or.is) c.decode-node.ensures in
    let p = or_parts c.args.words.now c.args.reference (c.requires.named, c.requires.inside) e in
    (omega (arith, c.decreases, p.1.1), collect_right c.args.words.now c.requires (or_numbers c.args.words.now c.requires.named _ _ _ e) p c.collect-first-in-Or.ensures.0)

pub returns-in-Compares : goal.returns-in-Compares
returns-in-Compares t c =
    let e : made (Compares _) _ _ _ ≡ node_at c.args.words.now (c.args.reference - 1) = made_is c.args.words.now (c.args.reference - 1) c.in-Compares.is c.decode-node.ensures in
    collected_leaf c.args.words.now c.requires.named c.args.disjoined c.args.leaves.now e c.push.ensures

pub returns-in-And : goal.returns-in-And
returns-in-And t c =
    let e : made (Connects And) _ _ _ ≡ node_at c.args.words.now (c.args.reference - 1) = made_is c.args.words.now (c.args.reference - 1) (c.in-Connects.is ∙ ap Connects c.in-And.is) c.decode-node.ensures in
    collected_and c.args.words.now c.requires.named _ _ _ c.args.disjoined c.args.leaves.now c.collect-first.ensures c.collect-second.ensures e

pub returns-in-Or : goal.returns-in-Or
returns-in-Or t c =
    let e : made (Connects Or) _ _ _ ≡ node_at c.args.words.now (c.args.reference - 1) = made_is c.args.words.now (c.args.reference - 1) (c.in-Connects.is ∙ ap Connects c.in-Or.is) c.decode-node.ensures in
    collected_or c.args.words.now c.requires.named _ _ _ c.args.disjoined c.args.leaves.now c.collect-first-in-Or.ensures c.collect-second-in-Or.ensures e

pub returns-in-Not : goal.returns-in-Not
returns-in-Not t c =
    let e : made (Connects Not) _ _ _ ≡ node_at c.args.words.now (c.args.reference - 1) = made_is c.args.words.now (c.args.reference - 1) (c.in-Connects.is ∙ ap Connects c.in-Not.is) c.decode-node.ensures in
    collected_none c.args.words.now c.requires.named c.args.disjoined c.args.leaves.now e (not_leaves _)

pub returns-in_default : goal.returns-in_default
returns-in_default t c =
    let words = c.args.words.now in
    let node = c.decode-node.result in
    collected_none c.args.words.now c.requires.named c.args.disjoined c.args.leaves.now c.decode-node.ensures (no_leaves node.form (reading_at words node.a) (reading_at words node.b) (reading_at words node.c) c.in_default.not-Compares c.in_default.not-Connects)
