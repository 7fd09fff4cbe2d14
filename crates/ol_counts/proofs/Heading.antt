-- Where the machine has a name, and nothing is to be done with it, it has come to a head normal form.
use Rattle.std.proofs.Common.{zero, suc, ◌≡◌, ℕ, ◌≤◌, ◌==◌, Bool, true, false, if◌then◌else◌, List, [], ◌∷◌, ◌++◌, length, None, Some, refl, sym, ap, ◌∙◌, subst, arith}
use Rattle.std.proofs.lemmas.Bool.{eqb-true, and_parts}
use Rattle.std.proofs.lemmas.Option.{same_Some, none-some}
use Rattle.ol_counts.specs.Machines.{Machine, Link, function, name, Cell, Frame, Control, goes, came, after, begun}
use Rattle.ol_net.specs.Graph.{Graph}
use Rattle.ol_term.specs.Trees.{Tree, is_below}
use Rattle.ol_term.specs.Trees as trees
use Rattle.ol_translate.specs.Names.{HasNames}
use Rattle.ol_readback.specs.Terms.{abstracted}
use Rattle.ol_law_optimality.proofs.Labelling.{each_term_has_letters}
use Rattle.ol_law_optimality.specs.Families.{HaveOwnLetters}
use Rattle.ol_law_meaning.specs.Shows.{BetaReduces, IsHeadNormal, IsVariable, applied}
use Rattle.ol_law_optimality.specs.Labels.{Labelled, var, free, lam, app, erased}
use Rattle.ol_law_optimality.proofs.HeadNeeded.{none_is_shorter_for_a_head, with_labels}
use Rattle.ol_law_optimality.proofs.Putting.{inst}
use Rattle.ol_counts.specs.NeedLaws.{has_come_to_name, has_head, steps_if_headed, need_head_count, DemandIsNoMoreThanNeedForAHead, NeedFindsAHead, NeedComesToAHead}
use Rattle.ol_law_confluence.proofs.HeadForms.{ends}
use Rattle.ol_law_confluence.proofs.Meetings.{convertible}
use Rattle.ol_law_optimality.proofs.Demanding.{contracts_beta}
use Rattle.ol_law_optimality.proofs.Needed.{spread}
use Rattle.ol_counts.proofs.Finding.{heads}
use Rattle.ol_counts.proofs.Firsts.{leads_to_head}
use Rattle.ol_demand.specs.Answers.{start_of}
use Rattle.ol_demand.specs.Demands.{Asking, Turns}
use Rattle.ol_net.specs.Nets.{NamedNet, IsNet, SameNet}
use Rattle.ol_net.specs.Numbered.{net_of}
use Rattle.ol_net.specs.declared.parts.Rule.TheVariants as rule
use Rattle.ol_readback.specs.declared.answers.ReadNode.{ReadNode}
use Rattle.ol_rules.specs.Counting.{times_applied}
use Rattle.ol_rules.specs.declared.journal.Entry.{Entry}
use Rattle.ol_rules.specs.declared.journal.NodeName.{NodeName}
use Rattle.ol_term.specs.declared.translations.Translation.{Translation}
use Rattle.ol_translate.specs.Translation.{translation_of}
use Rattle.ol_counts.proofs.Ending.{begins, states}
use Rattle.ol_counts.proofs.Matching.{ControlOf, name_neutral}
use Rattle.ol_counts.proofs.Moving.{Held, values_of}
use Rattle.ol_counts.proofs.Normals.{Neutral, HeadShape, shape_ren, neutral_shape}
use Rattle.ol_counts.proofs.Places.{Around, top, below, in_function, in_argument}
use Rattle.ol_counts.proofs.Stacks.{at_root}

-- ---- head normal forms

applied_last : (h : Tree) (Ps : List Tree) (P : Tree) → applied h (Ps ++ P ∷ []) ≡ trees.app (applied h Ps) P
applied_last h [] P = refl
applied_last h (Q ∷ Qs) P = applied_last (trees.app h Q) Qs P

record Spine (t : Tree) : Type 0 where
  head : Tree
  arguments : List Tree
  variable : IsVariable head
  «is» : t ≡ applied head arguments

spine_of : (t : Labelled) → Neutral t → Spine (erased t)
spine_of (var k w) h = record { head = trees.var k; arguments = []; variable = tt; «is» = refl }
spine_of (free k w) h = record { head = trees.free k; arguments = []; variable = tt; «is» = refl }
spine_of (lam t w) h = absurd h
spine_of (app f a w) h =
    let x = spine_of f h in
    record {
      head = x.head;
      arguments = x.arguments ++ erased a ∷ [];
      variable = x.variable;
      «is» =
          ap (λ f. trees.app f (erased a)) x.is ∙ sym (applied_last x.head x.arguments (erased a));
    }

of_spine : {t : Tree} → Spine t → IsHeadNormal t
of_spine x = record {
  abstractions = 0;
  head = x.head;
  arguments = x.arguments;
  variable = x.variable;
  «is» = x.is;
}

head_normal : (t : Labelled) → HeadShape t → IsHeadNormal (erased t)
head_normal (var k w) h = of_spine (spine_of (var k w) tt)
head_normal (free k w) h = of_spine (spine_of (free k w) tt)
head_normal (lam t w) h =
    let x = head_normal t h in
    record {
      abstractions = suc x.abstractions;
      head = x.head;
      arguments = x.arguments;
      variable = x.variable;
      «is» = ap trees.lam x.is;
    }
head_normal (app f a w) h = of_spine (spine_of (app f a w) h)

-- ---- of the whole term

whole_shape : {U : ℕ → Labelled} {W : Labelled} {b : Bool} {cs : List ℕ} {N : Labelled} → Around U W b cs N →
    HeadShape N → HeadShape W
whole_shape top h = h
whole_shape {N = N} (below x a) h = whole_shape a (shape_ren N _ h)
whole_shape (in_function g a) h = whole_shape a g
whole_shape (in_argument g n a) h = whole_shape a g

clash : false ≡ true → ⊥
clash e = absurd (cc)

headed : (T : Labelled) (n : ℕ) (control : Control) (stack : List Frame) (left : List ℕ)
    (cells : List Cell) (links : List Link) (steps : ℕ) (K : Labelled)
    (h : Held n T stack left cells links steps K) → ControlOf n links (values_of h) control K →
    (length stack == 0) ≡ true → has_come_to_name control ≡ true → IsHeadNormal (erased h.whole)
headed T n control (f ∷ stack) left cells links steps K h x a b =
    let k = eqb-true (suc (length stack)) 0 a in absurd (omega (arith, k))
headed T n (goes t e) [] left cells links steps K h x a b = absurd (clash b)
headed T n (came (function body e)) [] left cells links steps K h x a b = absurd (clash b)
headed T n (came (name e)) [] left cells links steps K h x a b =
    head_normal h.whole
    (whole_shape h.around
    (neutral_shape (inst h.values h.term)
    (subst (λ K. Neutral (inst h.values K)) (at_root h.stands).0 (name_neutral x))))

headed_if : (m : Machine) (n : ℕ) → steps_if_headed m ≡ Some n → (has_head m ≡ true) × (m.steps ≡ n)
headed_if m n e = go (has_head m) refl e
  where
    go : (b : Bool) → has_head m ≡ b → (if b then Some m.steps else None) ≡ Some n →
        (has_head m ≡ true) × (m.steps ≡ n)
    go true k q = (k, same_Some m.steps n q)
    go false k q = absurd (none-some _ q)

-- ---- the law

abbrev IsNoMoreFor : Translation → Tree → ℕ → Type 0
IsNoMoreFor τ t n = (names : ℕ) → HasNames t names →
    (g : Graph) → IsNet (net_of g) → SameNet (net_of g) (translation_of τ t names) →
    (turns : ℕ) (journal : List Entry) (places : List ReadNode) (M : NamedNet NodeName)
    (a : Asking) → Turns (start_of g) 1 turns journal places M a →
    times_applied rule.Beta journal ≤ n

of_labelled : (τ : Translation) (T : Labelled) → HaveOwnLetters T → (moves n : ℕ) →
    need_head_count (erased T) moves ≡ Some n → IsNoMoreFor τ (erased T) n
of_labelled τ T own moves n e names h g k same turns journal places M a r =
    let m = after moves (begun (erased T)) in
    let s = states T h.bound moves in
    let q = headed_if m n e in
    let p = and_parts (length m.stack == 0) (has_come_to_name m.control) q.0 in
    let f =
    headed T s.count m.control m.stack m.left m.cells m.links m.steps s.at_hand s.held s.control_is
    p.0 p.1 in
    let l =
    none_is_shorter_for_a_head τ T s.held.whole s.held.degrees s.held.reduces f own names h g k same
    turns journal places M a r in
    let c = s.held.counted in
    let d = q.1 in
    omega (arith, l, c, d)

pub demand_is_no_more_than_need_for_a_head : DemandIsNoMoreThanNeedForAHead
demand_is_no_more_than_need_for_a_head τ t names h moves n e =
    let l = each_term_has_letters t in
    subst (λ t. need_head_count t moves ≡ Some n → IsNoMoreFor τ t n) l.1
    (λ e. of_labelled τ l.0 l.2 moves n e) e names h

-- ---- the machine comes to a head

abbrev NeutralTree : Tree → Type 0
NeutralTree (trees.var k) = Unit {0}
NeutralTree (trees.free k) = Unit {0}
NeutralTree (trees.lam t) = ⊥
NeutralTree (trees.app f a) = NeutralTree f

abbrev HeadTree : Tree → Type 0
HeadTree (trees.var k) = Unit {0}
HeadTree (trees.free k) = Unit {0}
HeadTree (trees.lam t) = HeadTree t
HeadTree (trees.app f a) = NeutralTree f

neutral_erased : (t : Labelled) → NeutralTree (erased t) → Neutral t
neutral_erased (var k w) h = tt
neutral_erased (free k w) h = tt
neutral_erased (lam t w) h = absurd h
neutral_erased (app f a w) h = neutral_erased f h

shape_erased : (t : Labelled) → HeadTree (erased t) → HeadShape t
shape_erased (var k w) h = tt
shape_erased (free k w) h = tt
shape_erased (lam t w) h = shape_erased t h
shape_erased (app f a w) h = neutral_erased f h

applied_neutral : (Ps : List Tree) (f : Tree) → NeutralTree f → NeutralTree (applied f Ps)
applied_neutral [] f h = h
applied_neutral (P ∷ Ps) f h = applied_neutral Ps (trees.app f P) h

variable_neutral : (y : Tree) → IsVariable y → NeutralTree y
variable_neutral (trees.var k) h = tt
variable_neutral (trees.free k) h = tt
variable_neutral (trees.lam t) h = absurd h
variable_neutral (trees.app f a) h = absurd h

neutral_head : (t : Tree) → NeutralTree t → HeadTree t
neutral_head (trees.var k) h = tt
neutral_head (trees.free k) h = tt
neutral_head (trees.lam t) h = absurd h
neutral_head (trees.app f a) h = h

abstracted_head : (n : ℕ) (t : Tree) → NeutralTree t → HeadTree (abstracted n t)
abstracted_head zero t h = neutral_head t h
abstracted_head (suc n) t h = abstracted_head n t h

head_tree : (t : Tree) → IsHeadNormal t → HeadTree t
head_tree t x =
    subst HeadTree (sym x.is)
    (abstracted_head x.abstractions (applied x.head x.arguments)
    (applied_neutral x.arguments x.head (variable_neutral x.head x.variable)))

finds_of : (T : Labelled) (v : Tree) → is_below 0 (erased T) ≡ true → BetaReduces (erased T) v →
    IsHeadNormal v → (moves n : ℕ) × (need_head_count (erased T) moves ≡ Some n)
finds_of T v b r k =
    let f = ends (record { form = v; converts = convertible r; is_head_normal = k }) in
    let l = with_labels f.reduces T refl in
    let h = shape_erased l.term (head_tree (erased l.term) (subst IsHeadNormal (sym l.is) f.is_head_normal)) in
    let x =
    heads T (suc (length l.degrees)) (length l.degrees) (omega arith) (begun (erased T)) (begins T b)
    refl (leads_to_head l.heads h) in
    let m = after x.moves (begun (erased T)) in
    (x.moves, m.steps, ap (λ b. if b then Some m.steps else None) x.headed)

pub need_finds_a_head : NeedFindsAHead
need_finds_a_head t v b r k =
    let l = each_term_has_letters t in
    subst
    (λ t. is_below 0 t ≡ true → BetaReduces t v → (moves n : ℕ) × (need_head_count t moves ≡ Some n)) l.1
    (λ b r. finds_of l.0 v b r k) b r

comes_of : (T : Labelled) → is_below 0 (erased T) ≡ true → (moves n : ℕ) →
    need_head_count (erased T) moves ≡ Some n → (v : Tree) × BetaReduces (erased T) v × IsHeadNormal v
comes_of T b moves n e =
    let m = after moves (begun (erased T)) in
    let s = states T b moves in
    let q = headed_if m n e in
    let p = and_parts (length m.stack == 0) (has_come_to_name m.control) q.0 in (
      erased s.held.whole,
      contracts_beta (spread s.held.reduces).steps,
      headed T s.count m.control m.stack m.left m.cells m.links m.steps s.at_hand s.held s.control_is
          p.0 p.1,
    )

pub need_comes_to_a_head : NeedComesToAHead
need_comes_to_a_head t b moves n e =
    let l = each_term_has_letters t in
    subst
    (λ t. is_below 0 t ≡ true → need_head_count t moves ≡ Some n → (v : Tree) × BetaReduces t v × IsHeadNormal v)
    l.1 (λ b e. comes_of l.0 b moves n e) b e
