-- Causes of lines that aren't the next ones of a run.
use Rattle.std.proofs.Common.{◌≡◌, ◌≢◌, ℕ, ◌+◌, ◌≤◌, ◌<◌, List, [], ◌∷◌, ◌++◌, length}
use Rattle.std.proofs.Common.{Option, None, Some, ◌⊎◌, inl, inr, refl, sym, ap, ◌∙◌, subst, arith}
use Rattle.std.proofs.lemmas.Bool.{cases_lt}
use Rattle.std.specs.Prelude.{slice_get}
use Rattle.std.proofs.lemmas.Option.{slice_get_within}
use Rattle.ol_net.specs.declared.parts.Kind.{Kind}
use Rattle.ol_net.specs.declared.parts.NodeId.{NodeId}
use Rattle.ol_net.specs.declared.parts.Rule.{Rule}
use Rattle.ol_net.specs.Graph.{Graph}
use Rattle.ol_net.specs.Nets.{NamedNet, NamedPort, free, slot, HasNode, IsPort, Linked, Faces, port_under}
use Rattle.ol_net.specs.Numbered.{net_of}
use Rattle.ol_net.specs.Rules.{rule_of}
use Rattle.ol_rules.specs.declared.journal.NodeName.{NodeName}
use Rattle.ol_rules.specs.declared.journal.NodeName.TheVariants.{Init, Born}
use Rattle.ol_rules.specs.declared.journal.Entry.{Entry}
use Rattle.ol_rules.proofs.FreshPairs.{linked_sym}
use Rattle.ol_rules.proofs.NameOrder.{names_apart}
use Rattle.ol_rules.proofs.Renaming.{node_to, node_from, link_to, link_from}
use Rattle.ol_rules.proofs.OnTheWay.{node_below}
use Rattle.ol_diamond.specs.declared.weighing.Rewritten.{Rewritten}
use Rattle.ol_rules.specs.UnderWay.{node_number}
use Rattle.ol_view.specs.declared.forms.Form.{Form}
use Rattle.ol_view.specs.declared.forms.Form.TheVariants.{Two}
use Rattle.ol_view.specs.declared.line_reading.Line.{Line}
use Rattle.ol_view.specs.LineReading.{TellsOf}
use Rattle.ol_view.specs.Checks.{start_net_of_graph, IsRunTold}
use Rattle.ol_explain.specs.declared.causes.Cause.TheVariants as cause
use Rattle.ol_orders.specs.declared.replaying.Replay.{Replay}
use Rattle.ol_orders.specs.Replays.{names_of, IsReplay, net_here}
use Rattle.ol_explain.specs.Explained.{IsThere, IsGone, Names, NoneNames, AreThere, IsOfBefore, Decides, FacesCopy, FacesNoCopy, FaceNoCopies, IsJoinedAfter, IsCause}
use Rattle.ol_explain.specs.Explained as explained
use Rattle.ol_explain.specs.Reasons.{IsLive, IsNodeNamed, IsFaced, IsOtherCopy, NoCopies, IsCauseIdle, IsCauseOff}

-- no entry before this one names it
abbrev pub NoneBefore : List Entry → NodeName → ℕ → Type 0
NoneBefore journal x m = (j : ℕ) (e : Entry) → j < m → slice_get journal j ≡ Some e → Names e x → ⊥

pub none_first : (journal : List Entry) (x : NodeName) → NoneBefore journal x 0
none_first journal x j e l h q = omega arith

pub none_more : (journal : List Entry) (x : NodeName) (m : ℕ) → NoneBefore journal x m → (e : Entry) →
    slice_get journal m ≡ Some e → e.first ≢ x → e.second ≢ x → NoneBefore journal x (m + 1)
none_more journal x m n e g a b j d l h q = go (cases_lt j m)
  where
    named : Names e x → ⊥
    named (inl p) = a p
    named (inr p) = b p

    go : (j < m) ⊎ (m ≤ j) → ⊥
    go (inl k) = n j d k h q
    go (inr k) =
        let i : j ≡ m = omega arith in
        let z : Some d ≡ Some e = sym h ∙ ap (slice_get journal) i ∙ g in
        let y : d ≡ e = cc in
        named (subst (λ d. Names d x) y q)

pub none_at_all : (journal : List Entry) (x : NodeName) → NoneBefore journal x (length journal) → NoneNames journal x
none_at_all journal x n m e h q = n m e (slice_get_within journal m e h) h q

pub is_of_before : (journal : List Entry) (x : NodeName) →
    ((ticket place : ℕ) → x ≡ Born ticket place → ticket < length journal) → IsOfBefore journal x
is_of_before journal (Init k) h = tt
is_of_before journal (Born ticket place) h = h ticket place refl

-- it went by the line of this entry
pub went : (form : Form) (net : NamedNet NodeName) (journal : List Entry) (waves : List ℕ)
    (last : NamedNet NodeName) (e : Entry) (wave : ℕ) (x : NodeName) (m : ℕ) → Decides last e x →
    IsGone last x → (d : Entry) × (slice_get journal m ≡ Some d) × Names d x →
    IsCause form net journal waves last e wave (cause.Gone x (m + 2))
went form net journal waves last e wave x m is none (d, got, names) =
    explained.gone m d is none got names refl

module _ (old : Graph) (r : Replay) (u : IsReplay old r) where
  -- a number and its name
  pub named : (x : NodeName) (n : ℕ) → node_number r.numbers.bases.items x ≡ Some n → names_of r n ≡ x
  named x n e = let f = u.found x n e in u.listed n f.0 ∙ f.1

  pub there : (x : NodeName) (n : ℕ) (k : Kind) (i : ℕ) → names_of r n ≡ x → HasNode (net_of r.net) n k i →
      HasNode (net_here r) x k i
  there x n k i e h = subst (λ x. HasNode (net_here r) x k i) e (node_to (names_of r) (net_of r.net) n k i h)

  -- a name whose number, if it has one, is none of a node
  pub gone : (x : NodeName) → ((n : ℕ) → node_number r.numbers.bases.items x ≡ Some n → (k : Kind) (i : ℕ) →
      HasNode (net_of r.net) n k i → ⊥) → IsGone (net_here r) x
  gone x none k i h =
      let t = node_from (names_of r) (net_of r.net) x k i h in
      let b = node_below r.net t.0 k i t.1 in
      none t.0 (ap (node_number r.numbers.bases.items) (t.2 ∙ u.listed t.0 b) ∙ u.finds t.0 b) k i t.1

  one_number : (x y : ℕ) (k l : Kind) (i j : ℕ) → HasNode (net_of r.net) x k i → HasNode (net_of r.net) y l j →
      names_of r x ≡ names_of r y → x ≡ y
  one_number x y k l i j h h' e =
      names_apart (length old.nodes) (length r.net.nodes) (length r.run.journal) u.m
      (record { room = u.named.room; initial = u.named.initial; rising = u.named.rising; born = u.named.born }) x y
      (sym (u.listed x (node_below r.net x k i h)) ∙ e ∙ u.listed y (node_below r.net y l j h'))

  -- a port under the name of a node's principal port
  pub port_is : (x : ℕ) (k : Kind) (i : ℕ) → HasNode (net_of r.net) x k i → (p : NamedPort ℕ) →
      slot (names_of r x) 0 ≡ port_under (names_of r) p → IsPort (net_of r.net) p → p ≡ slot x 0
  port_is x k i h (free n) e b = absurd (cc)
  port_is x k i h (slot y s) e (l, j, h', b) =
      let e0 : names_of r x ≡ names_of r y = cc in
      let s0 : s ≡ 0 = cc in
      let y0 : x ≡ y = one_number x y k l i j h h' e0 in
      ap (λ n. slot n s) (sym y0) ∙ ap (λ t. slot x t) s0

  -- what the principal port of a node is joined to, under its name
  pub only_faced : (x : ℕ) (k : Kind) (i : ℕ) → HasNode (net_of r.net) x k i → (q : NamedPort ℕ) →
      Linked (net_of r.net) (slot x 0) q → (z : NodeName) →
      Linked (net_here r) (slot (names_of r x) 0) (slot z 0) → slot z 0 ≡ port_under (names_of r) q
  only_faced x k i h q linked z there =
      let t = link_from (names_of r) (net_of r.net) (slot (names_of r x) 0) (slot z 0) there in
      let p = port_is x k i h t.0 t.2 (u.is_net.of_ports t.0 t.1 t.4).0 in
      t.3 ∙ ap (port_under (names_of r)) (u.is_net.one_link (slot x 0) t.1 q
      (subst (λ p. Linked (net_of r.net) p t.1) p t.4) linked)

  module _ (x y : ℕ) (k l : Kind) (i j : ℕ) (h : HasNode (net_of r.net) x k i) (h' : HasNode (net_of r.net) y l j) where
    abbrev Apart : Type 0
    Apart = FacesNoCopy (net_here r) (names_of r x) (names_of r y)
        × FacesNoCopy (net_here r) (names_of r y) (names_of r x)

    -- the copies that the two nodes don't face, by the names of the line
    no_copies : Apart → (e : Entry) → names_of r x ≡ e.first → names_of r y ≡ e.second → FaceNoCopies (net_here r) e
    no_copies lacks e f g = subst (λ a. FacesNoCopy (net_here r) a e.second × FacesNoCopy (net_here r) e.second a) f
        (subst (λ b. FacesNoCopy (net_here r) (names_of r x) b × FacesNoCopy (net_here r) b (names_of r x)) g lacks)

    are_there : (e : Entry) → names_of r x ≡ e.first → names_of r y ≡ e.second → AreThere (net_here r) e
    are_there e f g = ((k, i, there e.first x k i f h), (l, j, there e.second y l j g h'))

    pub first_copy : (ticket place : ℕ) → FacesCopy (net_here r) (names_of r x) (names_of r y) ticket place →
        (name : NodeName) → name ≡ names_of r x → IsCauseIdle r x y (cause.FacesCopy name ticket place)
    first_copy ticket place copy name is form net waves e wave f g idle =
        subst (λ z. IsCause form net r.run.journal waves (net_here r) e wave (cause.FacesCopy z ticket place))
        (sym (is ∙ f)) (explained.faces_copy (are_there e f g)
        (subst (λ a. FacesCopy (net_here r) a e.second ticket place) f
        (subst (λ b. FacesCopy (net_here r) (names_of r x) b ticket place) g copy)))

    pub second_copy : FacesNoCopy (net_here r) (names_of r x) (names_of r y) → (ticket place : ℕ) →
        FacesCopy (net_here r) (names_of r y) (names_of r x) ticket place →
        (name : NodeName) → name ≡ names_of r y → IsCauseIdle r x y (cause.FacesCopy name ticket place)
    second_copy lacks ticket place copy name is form net waves e wave f g idle =
        subst (λ z. IsCause form net r.run.journal waves (net_here r) e wave (cause.FacesCopy z ticket place))
        (sym (is ∙ g)) (explained.copy_faces (are_there e f g)
        (subst (λ a. FacesNoCopy (net_here r) a e.second) f
        (subst (λ b. FacesNoCopy (net_here r) (names_of r x) b) g lacks))
        (subst (λ a. FacesCopy (net_here r) e.second a ticket place) f
        (subst (λ b. FacesCopy (net_here r) b (names_of r x) ticket place) g copy)))

    pub free_port : Apart → (p : ℕ) → Linked (net_of r.net) (slot x 0) (free p) →
        IsCauseIdle r x y (cause.FacesFree p)
    free_port lacks p linked form net waves e wave f g idle =
        explained.faces_free (are_there e f g) (no_copies lacks e f g)
        (subst (λ z. Linked (net_here r) (slot z 0) (free p)) f
        (link_to (names_of r) (net_of r.net) (slot x 0) (free p) linked))

    pub other_slot : Apart → (n s : ℕ) → Linked (net_of r.net) (slot x 0) (slot n s) → (s ≡ 0 → n ≡ y → ⊥) →
        (name : NodeName) → name ≡ names_of r n → IsCauseIdle r x y (cause.FacesSlot name s)
    other_slot lacks n s linked other name is form net waves e wave f g idle =
        explained.faces_slot (are_there e f g) (no_copies lacks e f g)
        (subst (λ z. Linked (net_here r) (slot e.first 0) (slot z s)) (sym is)
        (subst (λ z. Linked (net_here r) (slot z 0) (slot (names_of r n) s)) f
        (link_to (names_of r) (net_of r.net) (slot x 0) (slot n s) linked)))
        (λ q.
        let z : name ≡ e.second = cc in
        let t : s ≡ 0 = cc in
        let p = (u.is_net.of_ports (slot x 0) (slot n s) linked).1 in
        other t (one_number n y p.0 l p.1 j p.2 h' (sym is ∙ z ∙ sym g)))

    pub stuck : Linked (net_of r.net) (slot x 0) (slot y 0) → IsCauseIdle r x y cause.NoRule
    stuck linked form net waves e wave f g idle = explained.no_rule (record {
      k = k;
      i = i;
      l = l;
      j = j;
      faces = faces;
      first = first (rule_of k i l j) refl;
      second = second (rule_of l j k i) refl;
    })
      where
        joined : Linked (net_here r) (slot e.first 0) (slot e.second 0)
        joined = subst (λ z. Linked (net_here r) (slot e.first 0) (slot z 0)) g
            (subst (λ z. Linked (net_here r) (slot z 0) (slot (names_of r y) 0)) f
            (link_to (names_of r) (net_of r.net) (slot x 0) (slot y 0) linked))

        faces : Faces (net_here r) e.first e.second k i l j
        faces = record {
          first = there e.first x k i f h;
          second = there e.second y l j g h';
          linked = joined;
        }

        turned : Faces (net_here r) e.second e.first l j k i
        turned = record {
          first = there e.second y l j g h';
          second = there e.first x k i f h;
          linked = linked_sym (net_here r) (slot e.first 0) (slot e.second 0) joined;
        }

        first : (o : Option Rule) → rule_of k i l j ≡ o → rule_of k i l j ≡ None
        first None q = q
        first (Some rule) q = absurd ((idle rule).0 (record { k = k; i = i; l = l; j = j; faces = faces; fits = q }))

        second : (o : Option Rule) → rule_of l j k i ≡ o → rule_of l j k i ≡ None
        second None q = q
        second (Some rule) q = absurd ((idle rule).1 (record { k = l; i = j; l = k; j = i; faces = turned; fits = q }))

-- what the line tells, where it tells something
module _ (line : Line) (of : Rewritten) (rule : Rule) (w : ℕ) (told : line.told ≡ Some (rule, w)) where
  tells_of : (r : Rule) (wave : ℕ) → TellsOf line.told r wave → (rule ≡ r) × (w ≡ wave)
  tells_of r wave t = subst (λ o. TellsOf o r wave) told t

  pub wave_is_other : (old : Graph) (r : Replay) (joined : ℕ) →
      IsJoinedAfter (start_net_of_graph old) r.run.journal line.first line.second joined → rule ≡ of.rule →
      IsCauseOff old r line (Some of) (cause.OtherWave of.wave joined)
  wave_is_other old r joined j same form waves text at o =
      let t = tells_of o.entry.rule o.wave o.tells in
      let q : of.rule ≡ o.entry.rule = sym same ∙ t.0 in
      explained.other_wave o.waved
      (subst (λ (k : Rule). IsRunTold Two (start_net_of_graph old)
      (r.run.journal ++ record { rule = k; first = o.entry.first; second = o.entry.second } ∷ [])
      (waves ++ of.wave ∷ []) o.runs.0) q o.runs.1)
      (λ e. o.wrong (subst (λ o. TellsOf o of.rule of.wave) (sym told) (same, t.1 ∙ sym e)))
      (subst (λ a. IsJoinedAfter (start_net_of_graph old) r.run.journal a o.entry.second joined) (sym o.first)
      (subst (λ b. IsJoinedAfter (start_net_of_graph old) r.run.journal line.first b joined) (sym o.second) j))

  pub rule_is_other : (old : Graph) (r : Replay) → rule ≢ of.rule →
      IsCauseOff old r line (Some of) (cause.OtherRule of.rule)
  rule_is_other old r other form waves text at o =
      let t = tells_of o.entry.rule o.wave o.tells in
      explained.other_rule o.waved o.runs.1.0 (λ e. other (t.0 ∙ sym e))

module _ (old : Graph) (r : Replay) (u : IsReplay old r) where
  -- a node faces one node
  one_faced : (x : NodeId) → IsLive r x → (y z : NodeName) → IsFaced r x (Some y) → IsFaced r x (Some z) → y ≡ z
  one_faced x (k, i, h) y z to_y to_z =
      let t = link_from (names_of r) (net_of r.net) (slot (names_of r x.0) 0) (slot z 0) to_z in
      let p = port_is old r u x.0 k i h t.0 t.2 (u.is_net.of_ports t.0 t.1 t.4).0 in
      let e : slot y 0 ≡ slot z 0 = only_faced old r u x.0 k i h t.1
      (subst (λ p. Linked (net_of r.net) p t.1) p t.4) y to_y ∙ sym t.3 in cc

  pub is_there : (x y : NodeName) (at : NodeId) → IsNodeNamed r x at → y ≡ x → IsThere (net_here r) y
  is_there x y at (e, (k, i, h)) q = (k, i, there old r u y at.0 k i (e ∙ sym q) h)

  module _ (x y : NodeId) where
    pub idle_first : IsLive r x → IsLive r y → (ticket place : ℕ) →
        FacesCopy (net_here r) (names_of r x.0) (names_of r y.0) ticket place →
        (name : NodeName) → name ≡ names_of r x.0 → IsCauseIdle r x.0 y.0 (cause.FacesCopy name ticket place)
    idle_first (k, i, h) (l, j, h') ticket place copy name is =
        first_copy old r u x.0 y.0 k l i j h h' ticket place copy name is

    pub idle_second : IsLive r x → IsLive r y → FacesNoCopy (net_here r) (names_of r x.0) (names_of r y.0) →
        (ticket place : ℕ) → FacesCopy (net_here r) (names_of r y.0) (names_of r x.0) ticket place →
        (name : NodeName) → name ≡ names_of r y.0 → IsCauseIdle r x.0 y.0 (cause.FacesCopy name ticket place)
    idle_second (k, i, h) (l, j, h') lacks ticket place copy name is =
        second_copy old r u x.0 y.0 k l i j h h' lacks ticket place copy name is

    pub idle_free : IsLive r x → IsLive r y → NoCopies r x y → (p : ℕ) → Linked (net_of r.net) (slot x.0 0) (free p) →
        IsCauseIdle r x.0 y.0 (cause.FacesFree p)
    idle_free (k, i, h) (l, j, h') lacks p linked = free_port old r u x.0 y.0 k l i j h h' lacks p linked

    pub idle_slot : IsLive r x → IsLive r y → NoCopies r x y → (n s : ℕ) → Linked (net_of r.net) (slot x.0 0) (slot n s) →
        ((s ≡ 0) × (n ≡ y.0 → ⊥)) ⊎ (s ≡ 0 → ⊥) → (name : NodeName) → name ≡ names_of r n →
        IsCauseIdle r x.0 y.0 (cause.FacesSlot name s)
    idle_slot (k, i, h) (l, j, h') lacks n s linked either name is =
        other_slot old r u x.0 y.0 k l i j h h' lacks n s linked (go either) name is
      where
        go : ((s ≡ 0) × (n ≡ y.0 → ⊥)) ⊎ (s ≡ 0 → ⊥) → s ≡ 0 → n ≡ y.0 → ⊥
        go (inl (z, f)) e q = f q
        go (inr f) e q = f e

    pub idle_stuck : IsLive r x → IsLive r y → Linked (net_of r.net) (slot x.0 0) (slot y.0 0) →
        IsCauseIdle r x.0 y.0 cause.NoRule
    idle_stuck (k, i, h) (l, j, h') linked = stuck old r u x.0 y.0 k l i j h h' linked

  -- the node whose principal port that of a node is joined to
  pub faced_slot : (x n : ℕ) → Linked (net_of r.net) (slot x 0) (slot n 0) → (z : NodeName) → z ≡ names_of r n →
      Linked (net_here r) (slot (names_of r x) 0) (slot z 0)
  faced_slot x n linked z e = subst (λ z. Linked (net_here r) (slot (names_of r x) 0) (slot z 0)) (sym e)
      (link_to (names_of r) (net_of r.net) (slot x 0) (slot n 0) linked)

  pub faced_none : (x : NodeId) → IsLive r x → (q : NamedPort ℕ) → Linked (net_of r.net) (slot x.0 0) q →
      ((n : ℕ) → q ≡ slot n 0 → ⊥) → IsFaced r x None
  faced_none x (k, i, h) q linked lacks z there = go q lacks (only_faced old r u x.0 k i h q linked z there)
    where
      go : (q : NamedPort ℕ) → ((n : ℕ) → q ≡ slot n 0 → ⊥) → slot z 0 ≡ port_under (names_of r) q → ⊥
      go (free p) lacks e = absurd (cc)
      go (slot n s) lacks e = let s0 : s ≡ 0 = cc in lacks n (ap (λ s. slot n s) s0)

  -- what a node faces, where no name is one of its ticket at another place
  pub no_copy_faced : (x : NodeId) → IsLive r x → (z y : NodeName) → IsFaced r x (Some z) →
      ((ticket place : ℕ) → IsOtherCopy z y ticket place → ⊥) → FacesNoCopy (net_here r) (names_of r x.0) y
  no_copy_faced x (k, i, h) z y faced lacks ticket place copy =
      let e = one_faced x (k, i, h) (Born ticket place) z copy.faces faced in
      lacks ticket place (sym e, copy.other, copy.of_ticket, copy.otherwise)
