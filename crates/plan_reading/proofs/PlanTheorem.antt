-- Judged legal are exactly the words of legal plans. Node by node: words that read are a node's own words, and a legal node's words read back. Assumes nothing.
use Prim.Native.Nat.{ℕ, zero, suc, ◌+◌, ◌*◌, ◌/◌, ◌%◌, ◌≤◌}
use mathlib.Core.Path.{◌≡◌, refl, sym, ap, ap₂, subst, ◌∙◌}
use mathlib.Core.Bool.{Bool, true, false, cond, ◌&&◌, So}
use mathlib.Core.List.{List, [], ◌∷◌, ◌++◌}
use mathlib.Core.Option as maybe
use mathlib.Core.Option.{some, none}
use native.Mathlib.Omega.{arith}
use native.Mathlib.Nat.{add_comm, suc-mul, div-add-mod', zero-add, add-zero}
use lib.Dec.{eqb}
use lib.ListN.{length, take, drop, length-append, length-drop, take-append-drop}
use lib.Seq.{length-take-le, take_at, drop_at, drop-drop}
use borrow.Author.Tests.{eqb-true, eq-eqb}
use Rattle.relations.specs.Limits.{plan_node_limit, plan_node_words}
use Rattle.relations.specs.Lists.{flat}
use Rattle.relations.specs.Nodes as nodes
use Rattle.relations.specs.Machine.{run}
use Rattle.relations.specs.Plan.{width_of_node}
use Rattle.relations.specs.Legality.{between, legal_node, legal_nodes, legal_plan}
use Rattle.relations.specs.PlanWords.{node_words, count_fits, read_node}
use Rattle.relations.proofs.BoolLaws.{and_left, and_right, and_both}
use Rattle.relations.proofs.LegalityLaws.{legal-count}
use Rattle.relations.proofs.PlanWordsOnly.{words_and_back}
use Rattle.catalogue.specs.Stored.{relations_of, columns_of}
use Rattle.plan_reading.specs.Judging.{legal_read, judged_node, PlanNumbers, plan_numbers, PlanJudgement, illegal_at, onward, judge_plan_nodes, size_ok, plan_judgement, nodes_in, nodes_of_plan, node_words_at, LowestIllegal, JudgedExactly}
use Rattle.std.specs.Prelude.{Some, None, Ok}

illegal-place : {at place : ℕ} → illegal_at at ≡ illegal_at place → at ≡ place
illegal-place e = ap (λ (n : PlanNumbers). n.place) (ap plan_numbers e)

module _ (catalogue : List ℕ) where
  -- the first of the nodes that are judged legal, and the judgement of the others
  pub record LegalFirst (count : ℕ) (made words : List ℕ) (total : ℕ) : Type 0 where
    pub node : nodes.Node
    pub read : read_node (take plan_node_words words) ≡ some node
    pub legal : So (legal_node (relations_of catalogue) made node)
    pub others : judge_plan_nodes catalogue count (made ++ (width_of_node (columns_of catalogue) made node ∷ [])) (drop plan_node_words words) ≡ Ok total

  pub legal-first : (count : ℕ) (made words : List ℕ) (total : ℕ) → judge_plan_nodes catalogue (suc count) made words ≡ Ok total → LegalFirst count made words total
  unfolding judge_plan_nodes
  legal-first count made words total e = go (read_node (take plan_node_words words)) refl e
    where
      next : ℕ → PlanJudgement
      next = λ width. judge_plan_nodes catalogue count (made ++ (width ∷ [])) (drop plan_node_words words)

      go : (read : maybe.Option nodes.Node) → read_node (take plan_node_words words) ≡ read → onward (judged_node catalogue made read) (length made) next ≡ Ok total → LegalFirst count made words total
      go none read e = absurd cc
      go (some node) read e = judged (legal_node (relations_of catalogue) made node) refl e
        where
          judged : (legal : Bool) → legal_node (relations_of catalogue) made node ≡ legal → onward (cond legal (Some (width_of_node (columns_of catalogue) made node)) None) (length made) next ≡ Ok total → LegalFirst count made words total
          judged true legal e = record { node = node; read = read; legal = legal; others = e }
          judged false legal e = absurd cc

  record Sound (count : ℕ) (made words : List ℕ) (total : ℕ) : Type 0 where
    legal : So (legal_nodes (columns_of catalogue) (relations_of catalogue) made (nodes_in count words))
    written : flat node_words (nodes_in count words) ≡ words
    many : length (nodes_in count words) ≡ count
    counted : total ≡ length made + count

  sound-nodes : (count : ℕ) (made words : List ℕ) (total : ℕ) → length words ≡ count * plan_node_words → judge_plan_nodes catalogue count made words ≡ Ok total → Sound count made words total
  unfolding judge_plan_nodes nodes_in legal_nodes
  sound-nodes zero made [] total size e = let is : length made ≡ total = cc in record { legal = refl; written = refl; many = refl; counted = omega arith }
  sound-nodes zero made (word ∷ words) total size e = absurd (omega arith)
  sound-nodes (suc count) made words total size e =
      let first : LegalFirst count made words total = legal-first count made words total e in
      let node : nodes.Node = first.node in
      let width : ℕ = width_of_node (columns_of catalogue) made node in
      let room : plan_node_words ≤ length words = omega (arith, suc-mul count plan_node_words) in
      let own : node_words node ≡ take plan_node_words words = (words_and_back.only (take plan_node_words words) node (length-take-le plan_node_words words room) first.read).1 in
      let rest : Sound count (made ++ (width ∷ [])) (drop plan_node_words words) total =
      sound-nodes count (made ++ (width ∷ [])) (drop plan_node_words words) total (length-drop plan_node_words words ∙ omega (arith, suc-mul count plan_node_words)) first.others
      in
      record {
        legal = rw first.read (and_both (legal_node (relations_of catalogue) made node) (legal_nodes (columns_of catalogue) (relations_of catalogue) (made ++ (width ∷ [])) (nodes_in count (drop plan_node_words words))) first.legal rest.legal);
        written = rw first.read (ap₂ (λ (a b : List ℕ). a ++ b) own rest.written ∙ take-append-drop plan_node_words words);
        many = rw first.read (ap suc rest.many);
        counted = omega (arith, rest.counted, length-append made (width ∷ []));
      }

  record Complete (made : List ℕ) (plan : List nodes.Node) : Type 0 where
    judged : judge_plan_nodes catalogue (length plan) made (flat node_words plan) ≡ Ok (length made + length plan)
    back : nodes_in (length plan) (flat node_words plan) ≡ plan
    size : length (flat node_words plan) ≡ length plan * plan_node_words

  complete-nodes : (made : List ℕ) (plan : List nodes.Node) → So (legal_nodes (columns_of catalogue) (relations_of catalogue) made plan) → Complete made plan
  unfolding judge_plan_nodes nodes_in legal_nodes
  complete-nodes made [] h = record { judged = ap Ok (sym (add-zero (length made))); back = refl; size = refl }
  complete-nodes made (node ∷ plan) h =
      let width : ℕ = width_of_node (columns_of catalogue) made node in
      let legal : So (legal_node (relations_of catalogue) made node) = and_left (legal_node (relations_of catalogue) made node) (legal_nodes (columns_of catalogue) (relations_of catalogue) (made ++ (width ∷ [])) plan) h in
      let rest : Complete (made ++ (width ∷ [])) plan = complete-nodes (made ++ (width ∷ [])) plan (and_right (legal_node (relations_of catalogue) made node) (legal_nodes (columns_of catalogue) (relations_of catalogue) (made ++ (width ∷ [])) plan) h) in
      let fits : So (count_fits node) = legal-count (relations_of catalogue) made node legal in
      let own : length (node_words node) ≡ plan_node_words = words_and_back.size node fits in
      let front : take plan_node_words (node_words node ++ flat node_words plan) ≡ node_words node = take_at (node_words node) (flat node_words plan) plan_node_words own in
      let behind : drop plan_node_words (node_words node ++ flat node_words plan) ≡ flat node_words plan = drop_at (node_words node) (flat node_words plan) plan_node_words own in
      let read : read_node (take plan_node_words (node_words node ++ flat node_words plan)) ≡ some node = ap read_node front ∙ words_and_back.back node fits in
      let more : length (made ++ (width ∷ [])) + length plan ≡ length made + suc (length plan) = omega (arith, length-append made (width ∷ [])) in
      record {
        judged = rw (read, legal, behind) (rest.judged ∙ ap Ok more);
        back = rw (read, behind) (ap (λ (others : List nodes.Node). node ∷ others) rest.back);
        size = length-append (node_words node) (flat node_words plan) ∙ omega (arith, own, rest.size, suc-mul (length plan) plan_node_words);
      }

  -- the first illegal node, so many nodes behind those whose widths are made
  record Behind (made words : List ℕ) (place : ℕ) : Type 0 where
    nodes-before : ℕ
    placed : place ≡ length made + nodes-before
    legal : So (legal_nodes (columns_of catalogue) (relations_of catalogue) made (nodes_in nodes-before words))
    many : length (nodes_in nodes-before words) ≡ nodes-before
    illegal : legal_read (relations_of catalogue) (run (width_of_node (columns_of catalogue)) made (nodes_in nodes-before words)) (read_node (node_words_at words nodes-before)) ≡ false

  first-illegal : (count : ℕ) (made words : List ℕ) (place : ℕ) → judge_plan_nodes catalogue count made words ≡ illegal_at place → Behind made words place
  unfolding judge_plan_nodes nodes_in legal_nodes run
  first-illegal zero made words place e = absurd cc
  first-illegal (suc count) made words place e =
      go (read_node (take plan_node_words words)) refl (λ width e. first-illegal count (made ++ (width ∷ [])) (drop plan_node_words words) place e) e
    where
      next : ℕ → PlanJudgement
      next = λ width. judge_plan_nodes catalogue count (made ++ (width ∷ [])) (drop plan_node_words words)

      here : legal_read (relations_of catalogue) made (read_node (take plan_node_words words)) ≡ false → illegal_at (length made) ≡ illegal_at place → Behind made words place
      here bad e =
          let at : length made ≡ place = illegal-place e in
          record { nodes-before = 0; placed = omega arith; legal = refl; many = refl; illegal = bad }

      go : (read : maybe.Option nodes.Node) → read_node (take plan_node_words words) ≡ read → ((width : ℕ) → next width ≡ illegal_at place → Behind (made ++ (width ∷ [])) (drop plan_node_words words) place)
          → onward (judged_node catalogue made read) (length made) next ≡ illegal_at place → Behind made words place
      go none read deeper e = here (rw read) e
      go (some node) read deeper e = judged (legal_node (relations_of catalogue) made node) refl e
        where
          judged : (legal : Bool) → legal_node (relations_of catalogue) made node ≡ legal → onward (cond legal (Some (width_of_node (columns_of catalogue) made node)) None) (length made) next ≡ illegal_at place → Behind made words place
          judged false legal e = here (rw (read, legal)) e
          judged true legal e =
              let width : ℕ = width_of_node (columns_of catalogue) made node in
              let rest : Behind (made ++ (width ∷ [])) (drop plan_node_words words) place = deeper width e in
              let further : suc rest.nodes-before * plan_node_words ≡ plan_node_words + rest.nodes-before * plan_node_words = suc-mul rest.nodes-before plan_node_words ∙ add_comm (rest.nodes-before * plan_node_words) plan_node_words in
              let behind : node_words_at words (suc rest.nodes-before) ≡ node_words_at (drop plan_node_words words) rest.nodes-before =
              ap (take plan_node_words) (ap (λ (n : ℕ). drop n words) further ∙ sym (drop-drop (rest.nodes-before * plan_node_words) plan_node_words words))
              in
              record {
                nodes-before = suc rest.nodes-before;
                placed = omega (arith, rest.placed, length-append made (width ∷ []));
                legal = rw read (and_both (legal_node (relations_of catalogue) made node) (legal_nodes (columns_of catalogue) (relations_of catalogue) (made ++ (width ∷ [])) (nodes_in rest.nodes-before (drop plan_node_words words))) legal rest.legal);
                many = rw read (ap suc rest.many);
                illegal = rw (read, behind) rest.illegal;
              }

  pub judged_exactly : JudgedExactly catalogue
  judged_exactly = record { sound = λ words count e. by_size words count (eqb (length words % plan_node_words) 0 && between 1 plan_node_limit (length words / plan_node_words)) refl e; complete = complete; lowest = lowest }
    where
      by_size : (words : List ℕ) (count : ℕ) (good : Bool) → (eqb (length words % plan_node_words) 0 && between 1 plan_node_limit (length words / plan_node_words)) ≡ good
          → cond good (judge_plan_nodes catalogue (length words / plan_node_words) [] words) (illegal_at 0) ≡ Ok count
          → So (legal_plan (columns_of catalogue) (relations_of catalogue) (nodes_of_plan words)) × (flat node_words (nodes_of_plan words) ≡ words) × (length (nodes_of_plan words) ≡ count)
      by_size words count false good e = absurd cc
      by_size words count true good e =
          let n : ℕ = length words / plan_node_words in
          let whole : length words % plan_node_words ≡ 0 = eqb-true (length words % plan_node_words) 0 (and_left (eqb (length words % plan_node_words) 0) (between 1 plan_node_limit n) good) in
          let size : length words ≡ n * plan_node_words = sym (div-add-mod' (length words) plan_node_words) ∙ omega arith in
          let found : Sound n [] words count = sound-nodes n [] words count size e in (
            and_both (between 1 plan_node_limit (length (nodes_of_plan words))) (legal_nodes (columns_of catalogue) (relations_of catalogue) [] (nodes_of_plan words))
                (subst (λ (k : ℕ). So (between 1 plan_node_limit k)) (sym found.many) (and_right (eqb (length words % plan_node_words) 0) (between 1 plan_node_limit n) good))
                found.legal,
            found.written,
            omega (arith, found.many, found.counted),
          )

      complete : (plan : List nodes.Node) → So (legal_plan (columns_of catalogue) (relations_of catalogue) plan) → (plan_judgement catalogue (flat node_words plan) ≡ Ok (length plan)) × (nodes_of_plan (flat node_words plan) ≡ plan)
      complete plan h =
          let few : So (between 1 plan_node_limit (length plan)) = and_left (between 1 plan_node_limit (length plan)) (legal_nodes (columns_of catalogue) (relations_of catalogue) [] plan) h in
          let found : Complete [] plan = complete-nodes [] plan (and_right (between 1 plan_node_limit (length plan)) (legal_nodes (columns_of catalogue) (relations_of catalogue) [] plan) h) in
          let many : length (flat node_words plan) / plan_node_words ≡ length plan = omega (arith, found.size) in
          let whole : eqb (length (flat node_words plan) % plan_node_words) 0 ≡ true = eq-eqb (length (flat node_words plan) % plan_node_words) 0 (omega (arith, found.size)) in
          (rw (whole, many, few) (found.judged ∙ ap Ok (zero-add (length plan))), rw many found.back)

      lowest : (words : List ℕ) (place : ℕ) → size_ok words ≡ true → plan_judgement catalogue words ≡ illegal_at place → LowestIllegal catalogue words place
      lowest words place good e =
          let found : Behind [] words place = first-illegal (length words / plan_node_words) [] words place (rw good at e) in
          let at : found.nodes-before ≡ place = omega (arith, found.placed) in
          subst (LowestIllegal catalogue words) at (record { before = found.legal; all_read = found.many; illegal = found.illegal })
