-- Leads from equal nets lead to equal nets, under the same numbers.
use Rattle.std.proofs.Common.{◌≡◌, ℕ, suc, ◌+◌, ◌-◌, ◌<◌, ◌≤◌, true, cond, List, [], ◌∷◌, ◌++◌, length, get_or, Some}
use Rattle.std.proofs.Common.{slice_get, ◌⊎◌, inl, inr, refl, sym, ap, ◌∙◌, subst, arith}
use Rattle.std.proofs.lemmas.Bool.{cases_lt}
use Rattle.std.proofs.lemmas.Option.{slice_get-get_or}
use Rattle.ol_net.specs.declared.parts.Kind.{Kind}
use Rattle.ol_net.specs.declared.parts.Rule.{Rule}
use Rattle.ol_net.specs.Parts.{arity}
use Rattle.ol_net.specs.Nets.{NamedPort, free, slot, NamedNet, HasNode, Linked, IsPort, IsNet}
use Rattle.ol_net.specs.Nets.{SameNet, port_under, net_under}
use Rattle.ol_net.specs.Numbered.{net_of}
use Rattle.ol_net.specs.Pairs.{IsActive}
use Rattle.ol_net.proofs.Numbered.{net_is_net}
use Rattle.ol_rules.specs.declared.journal.NodeName.{NodeName}
use Rattle.ol_rules.specs.declared.journal.NodeName.TheVariants.{Init}
use Rattle.ol_rules.specs.declared.journal.Entry.{Entry}
use Rattle.ol_rules.specs.Laws.{AreNamedBefore}
use Rattle.ol_rules.specs.Names.{comes_before}
use Rattle.ol_rules.specs.Rewriting.{is_meeting}
use Rattle.ol_rules.specs.Runs.{IsLeadRun, end, then, names_born, names_made, IsNaming}
use Rattle.ol_rules.specs.Steps.{births}
use Rattle.ol_rules.proofs.NameOrder.{not_before_itself}
use Rattle.ol_rules.proofs.OneRun.{ArePaired, one_thread_one}
use Rattle.ol_rules.proofs.Relation.{same_sym}
use Rattle.ol_rules.proofs.Renaming.{node_to, node_from, link_to, link_from}
use Rattle.ol_rules.proofs.StartNets.{start_net, start_named}
use Rattle.ol_rules.proofs.UnderNames.{same_under}
use Rattle.ol_rules.proofs.OnTheWay.{node_below}
use Rattle.ol_view.specs.Laws.{LeadsAreOne}
use Rattle.ol_rules.proofs.OneEnd.{one_entry_pair, one_entry_step, step_net, step_before}

-- ---- the nodes that two runs of one journal make have the same names

-- as many are born of one pair, whichever of the two acts
births_one : {A : Type 0} (M N : NamedNet A) → IsNet M → SameNet M N →
    (f g f' g' : A) (r s : Rule) → ArePaired f g f' g' →
    (a : IsActive M f g r) (b : IsActive N f' g' s) → births r a.k a.l ≡ births r b.k b.l
births_one M N n same f g f' g' r s (inl e) a b =
    let k = n.one_node f a.k b.k a.i b.i a.faces.first
    ((same.nodes f b.k b.i).1 (subst (λ x. HasNode N x b.k b.i) (sym e.0) b.faces.first)) in
    let l = n.one_node g a.l b.l a.j b.j a.faces.second
    ((same.nodes g b.l b.j).1 (subst (λ x. HasNode N x b.l b.j) (sym e.1) b.faces.second)) in
    ap (λ k. births r k a.l) k.0 ∙ ap (λ l. births r b.k l) l.0
births_one M N n same f g f' g' r s (inr e) a b =
    let k = n.one_node f a.k b.l a.i b.j a.faces.first
    ((same.nodes f b.l b.j).1 (subst (λ x. HasNode N x b.l b.j) (sym e.0) b.faces.second)) in
    let l = n.one_node g a.l b.k a.j b.i a.faces.second
    ((same.nodes g b.k b.i).1 (subst (λ x. HasNode N x b.k b.i) (sym e.1) b.faces.first)) in
    let turned : arity b.k + arity b.l ≡ arity b.l + arity b.k = omega arith in
    ap (λ k. births r k a.l) k.0 ∙ ap (λ l. births r b.l l) l.0 ∙ ap (λ n. cond (is_meeting r) 0 n) turned

made_one : (M N P Q : NamedNet NodeName) (t : ℕ) (es es' : List Entry) → IsNet M →
    AreNamedBefore M t → SameNet M N → es ≡ es' →
    (run : IsLeadRun M t es P) (run' : IsLeadRun N t es' Q) → names_made run ≡ names_made run'
made_one M N P Q t [] [] n b m i end end = refl
made_one M N P Q t [] (e' ∷ es') n b m i end (then d st run) = absurd (cc)
made_one M N P Q t (e ∷ es) [] n b m i (then d st run) end = absurd (cc)
made_one M N P Q t (e ∷ es) (e' ∷ es') n b m i (then {M = K} d st run) (then {M = L} d' st' run') =
    let one : e ≡ e' = cc in
    let rest : es ≡ es' = cc in
    let first = ap (λ (e : Entry). e.first) one in
    let second = ap (λ (e : Entry). e.second) one in
    let pair = one_entry_pair M N K L t e e' n b m st first second st' in
    let count = births_one M N n m st.f st.g st'.f st'.g e.rule e'.rule pair st.step.active
    st'.step.active ∙ ap (λ (e : Entry). births e.rule st'.step.active.k st'.step.active.l) one in
    let k : SameNet K L = one_entry_step M N K L t e e' n b m st first second st' in
    let later = made_one K L P Q (suc t) es es' (step_net M N K L t e e' n b m st)
    (step_before M N K L t e e' n b m st) k rest run run' in
    ap (λ c. names_born t c ++ names_made run) count
    ∙ ap (λ names. names_born t (births e'.rule st'.step.active.k st'.step.active.l) ++ names) later

-- ---- so a number has one name, and a name one number

module _ (start : ℕ) (made : List NodeName) (names names' : ℕ → NodeName)
    (n : IsNaming start made names) (n' : IsNaming start made names') where
  one_name : (x : ℕ) → x < start + length made → names x ≡ names' x
  one_name x below = elim (cases_lt x start) [
    | inl early ↦ n.initial x early ∙ sym (n'.initial x early)
    | inr late ↦
        let p = x - start in
        let there = got p (omega arith) in
        let at : start + p ≡ x = omega arith in
        ap names (sym at) ∙ n.later p there.0 there.1 ∙ sym (n'.later p there.0 there.1) ∙ ap names' at
  ]
    where
      got : (p : ℕ) → p < length made → (y : NodeName) × (slice_get made p ≡ Some y)
      got p within = (get_or made p (Init 0), slice_get-get_or made p (Init 0) within)

  one_number : (x y : ℕ) → x < start + length made → y < start + length made → names x ≡ names' y → x ≡ y
  one_number x y bx by e = go (cases_lt x y) (cases_lt y x)
    where
      same : names x ≡ names y
      same = e ∙ sym (one_name y by)

      never : (x y : ℕ) → x < y → y < start + length made → names x ≡ names y → ⊥
      never x y less below e = let a : comes_before (names x) (names x) ≡ true = subst
          (λ z. comes_before (names x) z ≡ true) (sym e) (n.rising x y less below) in
          let b = not_before_itself (names x) in cc

      go : (x < y) ⊎ (y ≤ x) → (y < x) ⊎ (x ≤ y) → x ≡ y
      go (inl h) h' = absurd (never x y h by same)
      go (inr h) (inl h') = absurd (never y x h' bx (sym same))
      go (inr h) (inr h') = omega arith

-- ---- nets that are the same under names are the same where a name has one number

module _ {A B : Type 0} (m m' : A → B) (M N : NamedNet A) (n : IsNet M) (n' : IsNet N)
    (one : (x y : A) (k l : Kind) (i j : ℕ) → HasNode M x k i → HasNode N y l j → m x ≡ m' y →
    x ≡ y) (same : SameNet (net_under m M) (net_under m' N)) where
  node_over : (x : A) (k : Kind) (i : ℕ) → HasNode M x k i → HasNode N x k i
  node_over x k i h =
      let t = node_from m' N (m x) k i ((same.nodes (m x) k i).0 (node_to m M x k i h)) in
      subst (λ x. HasNode N x k i) (sym (one x t.0 k k i i h t.1 t.2)) t.1

  port_over : (p q : NamedPort A) → IsPort M p → IsPort N q → port_under m p ≡ port_under m' q → q ≡ p
  port_over (free u) (free v) a b e = let z : u ≡ v = cc in ap (λ u. free u) (sym z)
  port_over (free u) (slot y v) a b e = absurd (let bad : free u ≡ slot (m' y) v = e in cc)
  port_over (slot x u) (free v) a b e = absurd (let bad : slot (m x) u ≡ free v = e in cc)
  port_over (slot x u) (slot y v) a b e =
      let name : m x ≡ m' y = cc in
      let place : u ≡ v = cc in
      let number : x ≡ y = one x y a.0 b.0 a.1 b.1 a.2 b.2 name in
      ap (λ y. slot y v) (sym number) ∙ ap (λ v. slot x v) (sym place)

  link_over : (p q : NamedPort A) → Linked M p q → Linked N p q
  link_over p q h =
      let t = link_from m' N (port_under m p) (port_under m q)
      ((same.links (port_under m p) (port_under m q)).0 (link_to m M p q h)) in
      let of = n.of_ports p q h in
      let of' = n'.of_ports t.0 t.1 t.4 in
      subst (λ p. Linked N p q) (port_over p t.0 of.0 of'.0 t.2)
      (subst (λ q. Linked N t.0 q) (port_over q t.1 of.1 of'.1 t.3) t.4)

same_over : {A B : Type 0} (m m' : A → B) (M N : NamedNet A) → IsNet M → IsNet N →
    ((x y : A) (k l : Kind) (i j : ℕ) → HasNode M x k i → HasNode N y l j → m x ≡ m' y → x ≡ y) →
    SameNet (net_under m M) (net_under m' N) → SameNet M N
same_over {A} {B} m m' M N n n' one same =
    let back : (x y : A) (k l : Kind) (i j : ℕ) → HasNode N x k i → HasNode M y l j → m' x ≡ m y →
    x ≡ y = λ x y k l i j h h' e. sym (one y x l k j i h' h (sym e)) in
    let turned = same_sym (net_under m M) (net_under m' N) same in
    record {
      nodes = λ x k i. (node_over m m' M N n n' one same x k i, node_over m' m N M n' n back turned x k i);
      free_ports = same.free_ports;
      links = λ p q. (link_over m m' M N n n' one same p q, link_over m' m N M n' n back turned p q);
    }

-- ---- so the nets are the same

pub leads_one : LeadsAreOne
leads_one old old' new new' k steps steps' n same size t t' a a' =
    let M = net_under Init (net_of old) in
    let N = net_under Init (net_of old') in
    let start_same : SameNet M N = same_under Init (net_of old) (net_of old') same in
    let is_net : IsNet M = start_net (net_of old) n in
    let named = start_named (net_of old) in
    let led = a.run.leads in
    let led' = a'.run.leads in
    let last = net_under led.names (net_of new) in
    let last' = net_under led'.names (net_of new') in
    let o = one_thread_one M N last last' k a.journal a'.journal is_net named start_same
    a.run.one_thread a'.run.one_thread in
    let made = names_made led.run in
    let one_made : names_made led'.run ≡ made = sym
    (made_one M N last last' 0 a.journal a'.journal is_net named start_same o.0 led.run led'.run) in
    let naming' : IsNaming (length old.nodes) made led'.names = subst
    (λ s. IsNaming s made led'.names) (sym size)
    (subst (λ ms. IsNaming (length old'.nodes) ms led'.names) one_made led'.naming) in
    let numbers' : length new'.nodes ≡ length old.nodes + length made = led'.numbers
    ∙ ap (λ s. s + length (names_made led'.run)) (sym size) ∙ ap (λ ms. length old.nodes + length ms) one_made in
    let below : (x : ℕ) (k : Kind) (i : ℕ) → HasNode (net_of new) x k i →
    x < length old.nodes + length made = λ x k i h. subst (λ s. x < s) led.numbers (node_below new x k i h) in
    let below' : (x : ℕ) (k : Kind) (i : ℕ) → HasNode (net_of new') x k i →
    x < length old.nodes + length made = λ x k i h. subst (λ s. x < s) numbers' (node_below new' x k i h) in (
      a.count ∙ ap (λ (es : List Entry). length es) o.0 ∙ sym a'.count,
      same_over led.names led'.names (net_of new) (net_of new') (net_is_net new t) (net_is_net new' t')
          (λ x y k l i j h h' e. one_number (length old.nodes) made led.names led'.names led.naming
          naming' x y (below x k i h) (below' y l j h') e)
          o.1,
    )
