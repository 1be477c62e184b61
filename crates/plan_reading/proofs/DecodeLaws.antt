-- What 36 words are decoded to. The words of a node that reads are the node's own words, so its head words are its parts. Assumes nothing.
use Prim.Native.Nat.{ℕ, ◌+◌, ◌-◌}
use mathlib.Core.Path.{◌≡◌, refl, sym, ap, subst, ◌∙◌}
use mathlib.Core.Bool.{Bool, true, false, cond, ◌&&◌, So, and-true}
use mathlib.Core.List.{List, [], ◌∷◌, map}
use mathlib.Core.Option as maybe
use mathlib.Core.Option.{some, none}
use native.Mathlib.Omega.{arith}
use lib.ListN.{get_or, length, take, drop}
use lib.Seq.{drop-drop, get_or-drop}
use Rattle.std.specs.Prelude.{Option, Some, None}
use Rattle.relations.specs.Limits.{plan_node_words, head_words}
use Rattle.relations.specs.Nodes as nodes
use Rattle.relations.specs.Nodes.{load, project, select_constant, select_attribute, join, semijoin, antijoin, divide, unite, intersect, subtract, tally, selecting_constant, selecting_attribute, operation_of_node, operation_number, operation_of}
use Rattle.relations.specs.Columns.{attribute, constant}
use Rattle.relations.specs.Comparison.{operator_of}
use Rattle.relations.specs.Legality.{between}
use Rattle.relations.specs.PlanWords.{read_triples, read_pairs, read_parts, read_known, read_node}
use Rattle.relations.proofs.PlanWordsBack.{operation-back}
use Rattle.relations.proofs.PlanWordsOnly.{words_and_back}
use Rattle.plan_reading.specs.Decoding.{spaced, operators_known, operators_fit, operation_in, fits, head_in, Head, node_head, plan_head, head_decoded, head_read}
use Rattle.plan_reading.specs.declared.nodes.Operation.{Operation}
use Rattle.plan_reading.specs.declared.nodes.Operation.TheVariants.{Load, Project, SelectConstant, SelectAttribute, Join, Semijoin, Antijoin, Divide, Unite, Intersect, Subtract, Tally}
use Rattle.plan_reading.specs.declared.nodes.PlanNode.{PlanNode}
use Rattle.plan_reading.proofs.WordLaws.{get_d_front}
use Rattle.plan_reading.proofs.ShapeLaws.{count_most, count-least}
use Rattle.plan_reading.proofs.OperatorLaws.{ReadIf, operator_read, triples_read}

-- the node that words of a known operation would be, if their shape fits
abbrev pub parts_in : nodes.Operation → List ℕ → maybe.Option nodes.Node
parts_in operation words = read_parts operation (get_or words 1 0) (get_or words 2 0) (get_or words 3 0) (drop head_words words)

read_known_lem : (operation : nodes.Operation) (words : List ℕ) → operation_of (get_or words 0 0) ≡ some operation → read_node words ≡ cond (fits operation words) (parts_in operation words) none
read_known_lem operation words known = ap (λ (o : maybe.Option nodes.Operation). read_known o words) known

-- the head that words of a known operation have
abbrev words_head : nodes.Operation → List ℕ → Head
words_head operation words = record { operation = operation; left = get_or words 1 0; right = get_or words 2 0; count = get_or words 3 0 }

read_head : (words : List ℕ) (node : nodes.Node) → length words ≡ plan_node_words → read_node words ≡ some node → node_head node ≡ words_head (operation_of_node node) words
read_head words node size read = ap (words_head (operation_of_node node)) (words_and_back.only words node size read).1

-- The decoder's answers.

-- what the parts read as, where the list's operators are known or not
abbrev pub PartsIf : Operation → List ℕ → Bool → Type 0
PartsIf operation words true = (node : nodes.Node) × (parts_in (operation_in operation) words ≡ some node) × (operation_of_node node ≡ operation_in operation)
PartsIf operation words false = parts_in (operation_in operation) words ≡ none

-- parts that are made of one thing that may not be read
parts_if : {A : Type 0} (operation : Operation) (words : List ℕ) (make : A → nodes.Node) (read : maybe.Option A) (known : Bool) → ReadIf read known
    → parts_in (operation_in operation) words ≡ maybe.map make read → ((found : A) → operation_of_node (make found) ≡ operation_in operation) → PartsIf operation words known
parts_if operation words make read true r is made = (make r.0, is ∙ rw r.1, made r.0)
parts_if operation words make read false r is made = is ∙ rw r

operators_read : (words : List ℕ) → ReadIf (read_triples (get_or words 3 0) (drop head_words words)) (operators_known words)
operators_read words = rw (drop-drop 1 head_words words) at (triples_read (get_or words 3 0) (drop head_words words))

-- the one operator of a select
operator_alone : (words : List ℕ) → get_or words 3 0 ≡ 1 → ReadIf (operator_of (get_or (drop head_words words) 1 0)) (operators_known words)
unfolding spaced
operator_alone words one =
    let here : get_or (drop (head_words + 1) words) 0 0 ≡ get_or (drop head_words words) 1 0 = get_d_front words (head_words + 1) ∙ sym (get_or-drop head_words words 1 0) in
    let known : operators_known words ≡ between 1 6 (get_or (drop head_words words) 1 0) = rw (one, here) (and-true (between 1 6 (get_or (drop head_words words) 1 0))) in
    rw known (operator_read (get_or (drop head_words words) 1 0))

parts_fit : (operation : Operation) (words : List ℕ) → So (fits (operation_in operation) words) → PartsIf operation words (operators_fit (operation_in operation) words)
parts_fit Load w f = (load (get_or w 1 0), refl, refl)
parts_fit Project w f = (project (get_or w 1 0) (map attribute (take (get_or w 3 0) (drop head_words w))), refl, refl)
parts_fit SelectConstant w f =
    parts_if SelectConstant w (λ o. select_constant (get_or w 1 0) (attribute (get_or (drop head_words w) 0 0)) o (constant (get_or (drop head_words w) 2 0))) (operator_of (get_or (drop head_words w) 1 0)) (operators_known w)
    (operator_alone w (omega (arith, count_most selecting_constant w f, count-least selecting_constant w f))) refl (λ o. refl)
parts_fit SelectAttribute w f =
    parts_if SelectAttribute w (λ o. select_attribute (get_or w 1 0) (attribute (get_or (drop head_words w) 0 0)) o (attribute (get_or (drop head_words w) 2 0))) (operator_of (get_or (drop head_words w) 1 0)) (operators_known w)
    (operator_alone w (omega (arith, count_most selecting_attribute w f, count-least selecting_attribute w f))) refl (λ o. refl)
parts_fit Join w f = parts_if Join w (join (get_or w 1 0) (get_or w 2 0)) (read_triples (get_or w 3 0) (drop head_words w)) (operators_known w) (operators_read w) refl (λ triples. refl)
parts_fit Semijoin w f = parts_if Semijoin w (semijoin (get_or w 1 0) (get_or w 2 0)) (read_triples (get_or w 3 0) (drop head_words w)) (operators_known w) (operators_read w) refl (λ triples. refl)
parts_fit Antijoin w f = parts_if Antijoin w (antijoin (get_or w 1 0) (get_or w 2 0)) (read_triples (get_or w 3 0) (drop head_words w)) (operators_known w) (operators_read w) refl (λ triples. refl)
parts_fit Divide w f = (divide (get_or w 1 0) (get_or w 2 0) (read_pairs (get_or w 3 0) (drop head_words w)), refl, refl)
parts_fit Unite w f = (unite (get_or w 1 0) (get_or w 2 0), refl, refl)
parts_fit Intersect w f = (intersect (get_or w 1 0) (get_or w 2 0), refl, refl)
parts_fit Subtract w f = (subtract (get_or w 1 0) (get_or w 2 0), refl, refl)
parts_fit Tally w f = (tally (get_or w 1 0) (get_or w 2 0) (get_or (drop head_words w) 0 0), refl, refl)

-- the decoder's two tests, and what it answers by them
pub decoded : (operation : Operation) (words : List ℕ) → length words ≡ plan_node_words → operation_of (get_or words 0 0) ≡ some (operation_in operation)
    → (fit known : Bool) → fits (operation_in operation) words ≡ fit → (fit ≡ true → operators_fit (operation_in operation) words ≡ known)
    → head_decoded (cond (fit && known) (Some (head_in operation words)) None) ≡ head_read (read_node words)
decoded operation words size is = go
  where
    read : read_node words ≡ cond (fits (operation_in operation) words) (parts_in (operation_in operation) words) none
    read = read_known_lem (operation_in operation) words is

    parts : fits (operation_in operation) words ≡ true → (known : Bool) → operators_fit (operation_in operation) words ≡ known → PartsIf operation words known
    parts f known k = subst (PartsIf operation words) k (parts_fit operation words f)

    go : (fit known : Bool) → fits (operation_in operation) words ≡ fit → (fit ≡ true → operators_fit (operation_in operation) words ≡ known)
        → head_decoded (cond (fit && known) (Some (head_in operation words)) None) ≡ head_read (read_node words)
    go true true f k =
        let found : PartsIf operation words true = parts f true (k refl) in
        let is : read_node words ≡ some found.0 = read ∙ rw f found.1 in
        rw is (ap some (ap (λ (o : nodes.Operation). words_head o words) (sym found.2) ∙ sym (read_head words found.0 size is)))
    go true false f k = let is : read_node words ≡ none = read ∙ rw f (parts f false (k refl)) in rw is
    go false known f k = let is : read_node words ≡ none = read ∙ rw f in rw is

-- A decoded node stands for the node that its words read as.

pub record Stands (words : List ℕ) (plan : PlanNode) : Type 0 where
  pub node : nodes.Node
  pub read : read_node words ≡ some node
  pub is : node_head node ≡ plan_head plan
  pub parts : read_parts (operation_in plan.operation) plan.left plan.right plan.count (drop head_words words) ≡ some node
  pub fit : So (fits (operation_in plan.operation) words)
  pub counts : plan.count ≡ get_or words 3 0

nothing_read {ℓ} : {A : Type 0} {C : Type ℓ} {found : A} → Path (maybe.Option A) none (some found) → C
nothing_read e = let z : ◌≡◌ {A = ℕ} 0 1 = cc in absurd (omega arith)

pub stands : (words : List ℕ) (plan : PlanNode) → length words ≡ plan_node_words → head_read (read_node words) ≡ some (plan_head plan) → Stands words plan
stands words plan size e = go (read_node words) refl e
  where
    go : (found : maybe.Option nodes.Node) → read_node words ≡ found → head_read found ≡ some (plan_head plan) → Stands words plan
    go none read e = nothing_read e
    go (some node) read e = fitting (fits operation words) refl (sym (read_known_lem operation words (ap operation_of number ∙ operation-back operation)) ∙ read)
      where
        operation : nodes.Operation
        operation = operation_of_node node

        number : get_or words 0 0 ≡ operation_number operation
        number = ap (λ (ws : List ℕ). get_or ws 0 0) (sym (words_and_back.only words node size read).1)

        is : node_head node ≡ plan_head plan
        is = cc

        head : words_head operation words ≡ plan_head plan
        head = sym (read_head words node size read) ∙ is

        fitting : (fit : Bool) → fits operation words ≡ fit → cond fit (parts_in operation words) none ≡ some node → Stands words plan
        fitting true f parts =
            record {
              node = node;
              read = read;
              is = is;
              parts = subst (λ (h : Head). read_parts h.operation h.left h.right h.count (drop head_words words) ≡ some node) head parts;
              fit = subst (λ (h : Head). So (fits h.operation words)) head f;
              counts = ap (λ (h : Head). h.count) (sym head);
            }
        fitting false f parts = nothing_read parts

-- No two operations of the code are the same in relations' words, so a head names one answer: `decode_node` promises one.

-- by number; what stands at 12, which is no operation's number, is never asked for
abbrev operations : List Operation
operations = Load ∷ Project ∷ SelectConstant ∷ SelectAttribute ∷ Join ∷ Semijoin ∷ Antijoin ∷ Divide ∷ Unite ∷ Intersect ∷ Subtract ∷ Load ∷ Tally ∷ []

abbrev numbered : nodes.Operation → Operation
numbered operation = get_or operations (operation_number operation - 1) Load

numbered_in : (operation : Operation) → numbered (operation_in operation) ≡ operation
numbered_in Load = refl
numbered_in Project = refl
numbered_in SelectConstant = refl
numbered_in SelectAttribute = refl
numbered_in Join = refl
numbered_in Semijoin = refl
numbered_in Antijoin = refl
numbered_in Divide = refl
numbered_in Unite = refl
numbered_in Intersect = refl
numbered_in Subtract = refl
numbered_in Tally = refl

abbrev planned : Head → PlanNode
planned head = record { operation = numbered head.operation; left = head.left; right = head.right; count = head.count }

planned_back : (plan : PlanNode) → planned (plan_head plan) ≡ plan
planned_back plan = ap (λ (o : Operation). record { operation = o; left = plan.left; right = plan.right; count = plan.count }) (numbered_in plan.operation)

pub one_decoded : (one other : Option PlanNode) → head_decoded one ≡ head_decoded other → one ≡ other
one_decoded None None e = refl
one_decoded None (Some other) e = nothing_read e
one_decoded (Some one) None e = nothing_read (sym e)
one_decoded (Some one) (Some other) e = let head : plan_head one ≡ plan_head other = cc in ap Some (sym (planned_back one) ∙ ap planned head ∙ planned_back other)
