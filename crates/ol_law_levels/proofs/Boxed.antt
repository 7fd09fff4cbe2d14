-- The parts of a term's net stand in boxes: the ends of their links, their roots and their wires.
use Rattle.std.proofs.Common.{◌≡◌, ℕ, suc, ◌+◌, ◌<◌, List, [], ◌∷◌, ◌++◌, length, map, Bool, true, false, nat_eq}
use Rattle.std.proofs.Common.{nat_lt, if◌then◌else◌, Option, None, Some, ◌⊎◌, inl, inr, refl, sym, ap, ◌∙◌, subst}
use Rattle.std.proofs.Common.{arith, length-append}
use Rattle.std.proofs.lemmas.Bool.Decides.{nat_tests}
use Rattle.ol_law_levels.proofs.Parts.{links_join}
use Rattle.ol_net.specs.Nets.{NamedNet, HasNode}
use Rattle.ol_net.specs.Numbered.{numbered_port}
use Rattle.ol_net.specs.declared.parts.Kind.{Kind}
use Rattle.ol_net.specs.declared.parts.Kind.TheVariants as kind
use Rattle.ol_net.specs.declared.parts.Port.{Port}
use Rattle.ol_law_meaning.proofs.Fans.{Holds, Links, holds_append, by_wire, wire_here, wire_later}
use Rattle.ol_term.specs.Trees.{Tree, var, free, lam, app}
use Rattle.ol_term.specs.Trees as trees
use Rattle.ol_term.specs.declared.translations.Translation.{Translation}
use Rattle.ol_translate.proofs.Walks.{length-bracket_nodes}
use Rattle.ol_translate.specs.Translation.{Subnet, subnet_of, occurrence, abstraction, application}
use Rattle.ol_translate.specs.Translation.{application_to, applied, bare_variable, erasers, bound_port, outside}
use Rattle.ol_translate.specs.Translation.{bracket_nodes, bracket_links, past_brackets, fans, fan_nodes, fan_links}
use Rattle.ol_translate.specs.Translation.{merged, wire_of, reconnected, slot_port}
use Rattle.ol_law_levels.proofs.Places.{RootEnd, lam_0, lam_1, app_0, app_1, app_2, croissant_1, Inner, fan_0}
use Rattle.ol_law_levels.proofs.Places.{croissant_0, bracket_0, bare_2, Outer, lam_2, fan_1, fan_2, bracket_1}
use Rattle.ol_law_levels.proofs.Places.{Agree, Fits, roots, wires, erases}

-- ---- nodes with the boxes round them

abbrev pub Owner : Type 0
Owner = ℕ → ℕ

abbrev pub Marked : Type 0
Marked = Kind × ℕ × Owner

-- box n is that of application k
abbrev pub updated : Owner → ℕ → ℕ → Owner
updated E n k m = if nat_eq m n then k else E m

abbrev pub with_owner : Owner → List (Kind × ℕ) → List Marked
with_owner E nodes = map (λ (x : Kind × ℕ). (x.0, x.1, E)) nodes

-- those of an application, by its argument
abbrev pub marked_app : (n k : ℕ) → Option ℕ → Subnet → Subnet → Owner → List Marked → List Marked → List Marked
marked_app n k None M N E ms ns =
    let b = k + 1 + length M.nodes + length N.nodes in
    (((kind.App, n, E) ∷ ms) ++ ns)
    ++ with_owner (updated E n k)
    (bracket_nodes n N.wires ++ (fans n (b + length N.wires) M.wires (past_brackets b N.wires)).nodes)
marked_app n k (Some y) M N E ms ns =
    ((kind.App, n, E) ∷ ms)
    ++ with_owner (updated E n k) (fans n (k + 1 + length M.nodes) M.wires ((y, slot_port k 2) ∷ [])).nodes

abbrev pub marked : Translation → Tree → (d n k : ℕ) → Owner → List Marked
marked τ (var v) d n k E = (kind.Croissant, n, E) ∷ []
marked τ (trees.free f) d n k E = (kind.Croissant, n, E) ∷ []
marked τ (lam M) d n k E =
    ((kind.Lam, n, E) ∷ marked τ M (d + 1) n (k + 1) E)
    ++ with_owner E (erasers (wire_of 0 (subnet_of τ M (d + 1) n (k + 1)).wires))
marked τ (app M N) d n k E =
    let left = subnet_of τ M d n (k + 1) in
    let j = k + 1 + length left.nodes in
    marked_app n k (bare_variable τ d N) left (subnet_of τ N d (n + 1) j) E
    (marked τ M d n (k + 1) E) (marked τ N d (n + 1) j (updated E n k))

abbrev pub unmarked : List Marked → List (Kind × ℕ)
unmarked xs = map (λ (x : Marked). (x.0, x.1)) xs

unmarked_append : (xs ys : List Marked) → unmarked (xs ++ ys) ≡ unmarked xs ++ unmarked ys
unmarked_append [] ys = refl
unmarked_append (x ∷ xs) ys = ap (λ l. (x.0, x.1) ∷ l) (unmarked_append xs ys)

unmarked_with : (E : Owner) (xs : List (Kind × ℕ)) → unmarked (with_owner E xs) ≡ xs
unmarked_with E [] = refl
unmarked_with E (x ∷ xs) = ap (λ l. x ∷ l) (unmarked_with E xs)

joined_two : (xs ys : List Marked) (us vs : List (Kind × ℕ)) → unmarked xs ≡ us → unmarked ys ≡ vs →
    unmarked (xs ++ ys) ≡ us ++ vs
joined_two xs ys us vs e f =
    unmarked_append xs ys ∙ ap (λ l. l ++ unmarked ys) e ∙ ap (λ l. us ++ l) f

unmarked_app : (n k : ℕ) (o : Option ℕ) (M N : Subnet) (E : Owner) (ms ns : List Marked) →
    unmarked ms ≡ M.nodes → unmarked ns ≡ N.nodes → unmarked (marked_app n k o M N E ms ns) ≡ (applied n k o M N).nodes
unmarked_app n k None M N E ms ns e f =
    let b = k + 1 + length M.nodes + length N.nodes in
    let rest = bracket_nodes n N.wires ++ (fans n (b + length N.wires) M.wires (past_brackets b N.wires)).nodes in
    joined_two (((kind.App, n, E) ∷ ms) ++ ns) (with_owner (updated E n k) rest)
    (((kind.App, n) ∷ M.nodes) ++ N.nodes) rest
    (joined_two ((kind.App, n, E) ∷ ms) ns ((kind.App, n) ∷ M.nodes) N.nodes (ap (λ l. (kind.App, n) ∷ l) e) f)
    (unmarked_with (updated E n k) rest)
unmarked_app n k (Some y) M N E ms ns e f =
    let rest = (fans n (k + 1 + length M.nodes) M.wires ((y, slot_port k 2) ∷ [])).nodes in
    joined_two ((kind.App, n, E) ∷ ms) (with_owner (updated E n k) rest) ((kind.App, n) ∷ M.nodes) rest
    (ap (λ l. (kind.App, n) ∷ l) e) (unmarked_with (updated E n k) rest)

-- they are the nodes of the part
pub unmarked_nodes : (τ : Translation) (t : Tree) (d n k : ℕ) (E : Owner) →
    unmarked (marked τ t d n k E) ≡ (subnet_of τ t d n k).nodes
unmarked_nodes τ (var v) d n k E = refl
unmarked_nodes τ (trees.free f) d n k E = refl
unmarked_nodes τ (lam M) d n k E =
    let P = subnet_of τ M (d + 1) n (k + 1) in
    joined_two ((kind.Lam, n, E) ∷ marked τ M (d + 1) n (k + 1) E) (with_owner E (erasers (wire_of 0 P.wires)))
    ((kind.Lam, n) ∷ P.nodes) (erasers (wire_of 0 P.wires))
    (ap (λ l. (kind.Lam, n) ∷ l) (unmarked_nodes τ M (d + 1) n (k + 1) E))
    (unmarked_with E (erasers (wire_of 0 P.wires)))
unmarked_nodes τ (app M N) d n k E =
    let left = subnet_of τ M d n (k + 1) in
    let j = k + 1 + length left.nodes in
    unmarked_app n k (bare_variable τ d N) left (subnet_of τ N d (n + 1) j) E
    (marked τ M d n (k + 1) E) (marked τ N d (n + 1) j (updated E n k)) (unmarked_nodes τ M d n (k + 1) E)
    (unmarked_nodes τ N d (n + 1) j (updated E n k))

-- ---- nodes of a list from number k on

module _ (H : ℕ → Kind → ℕ → Owner → Type 0) where
  abbrev pub Has : ℕ → List Marked → Type 0
  Has k [] = Unit {0}
  Has k (x ∷ xs) = H k x.0 x.1 x.2 × Has (k + 1) xs

  has_append : (k j : ℕ) (xs ys : List Marked) → j ≡ k + length xs → Has k (xs ++ ys) → Has k xs × Has j ys
  has_append k j [] ys e h = let same : k ≡ j = omega arith in (tt, subst (λ k. Has k ys) same h)
  has_append k j (x ∷ xs) ys e h =
      let r = has_append (k + 1) j xs ys (omega arith) h.1 in ((h.0, r.0), r.1)

  has_with : (E : Owner) (k : ℕ) (xs : List (Kind × ℕ)) → Has k (with_owner E xs) → Holds (λ x K i. H x K i E) k xs
  has_with E k [] h = tt
  has_with E k (x ∷ xs) h = (h.0, has_with E (k + 1) xs h.1)

length_unmarked : (xs : List Marked) → length (unmarked xs) ≡ length xs
length_unmarked [] = refl
length_unmarked (x ∷ xs) = ap suc (length_unmarked xs)

pub long : (τ : Translation) (t : Tree) (d n k : ℕ) (E : Owner) →
    length (marked τ t d n k E) ≡ length (subnet_of τ t d n k).nodes
long τ t d n k E =
    sym (length_unmarked (marked τ t d n k E)) ∙ ap (λ l. length l) (unmarked_nodes τ t d n k E)

updated_below : (E : Owner) (n k m : ℕ) → m < n → updated E n k m ≡ E m
updated_below E n k m b = let off : nat_eq m n ≡ false = grind (arith, nat_tests, b) in rw off refl

updated_at : (E : Owner) (n k : ℕ) → updated E n k n ≡ k
updated_at E n k = let here : nat_eq n n ≡ true = grind (arith, nat_tests) in rw here refl

module _ (N : NamedNet ℕ) (boxes : ℕ → ℕ → ℕ) where
  abbrev pub AgreesWith : ℕ → ℕ → Owner → Type 0
  AgreesWith n x E = (m : ℕ) → m < n → boxes x m ≡ E m

  -- a node with the boxes round it; an application's index is that of its own box
  pub record H (x : ℕ) (K : Kind) (i : ℕ) (E : Owner) : Type 0 where
    pub node : HasNode N x K i
    pub own : (m : ℕ) → (K ≡ kind.App → m < i) → boxes x m ≡ E m

  abbrev pub L : Port → Port → Type 0
  L p q = Fits N boxes (numbered_port p) (numbered_port q) ⊎ Fits N boxes (numbered_port q) (numbered_port p)

  abbrev pub RootAt : ℕ → Owner → Port → Type 0
  RootAt n E p = (x : ℕ) × RootEnd N (numbered_port p) n x × AgreesWith n x E

  abbrev pub WireAt : ℕ → Owner → Port → Type 0
  WireAt n E p = (x : ℕ) × Inner N (numbered_port p) n x × AgreesWith n x E

  abbrev OuterAt : ℕ → Owner → Port → Type 0
  OuterAt n E p = (x : ℕ) × Outer N (numbered_port p) n x × AgreesWith n x E

  abbrev pub Wired : ℕ → Owner → List (ℕ × Port) → Type 0
  Wired n E [] = Unit {0}
  Wired n E (w ∷ ws) = WireAt n E w.1 × Wired n E ws

  pub record FitsPart (n : ℕ) (E : Owner) (P : Subnet) : Type 0 where
    pub links : Links L P.links
    pub root : RootAt n E P.root
    pub wires : Wired n E P.wires

  agree : (n : ℕ) (E : Owner) (x y : ℕ) → AgreesWith n x E → AgreesWith n y E → Agree N boxes n x y
  agree n E x y f g m b = f m b ∙ sym (g m b)

  two_roots : (n : ℕ) (E : Owner) (p q : Port) → RootAt n E p → RootAt n E q → L p q
  two_roots n E p q r s = inl (roots n r.0 s.0 r.1 s.1 (agree n E r.0 s.0 r.2 s.2))

  from_outer : (n : ℕ) (E : Owner) (p q : Port) → OuterAt n E p → WireAt n E q → L p q
  from_outer n E p q r s = inr (wires n s.0 r.0 s.1 r.1 (agree n E s.0 r.0 s.2 r.2))

  -- below an index, and at all levels of a node that isn't an application
  below : {x : ℕ} {K : Kind} {n : ℕ} {E : Owner} → H x K n E → AgreesWith n x E
  below h m b = h.own m (λ e. b)

  below_updated : (n k x : ℕ) (E : Owner) → AgreesWith n x (updated E n k) → AgreesWith n x E
  below_updated n k x E f m b = f m b ∙ updated_below E n k m b

  -- ---- wires

  wire_at : (n : ℕ) (E : Owner) (v : ℕ) (ws : List (ℕ × Port)) → Wired n E ws → (p : Port) → wire_of v ws ≡ Some p →
      WireAt n E p
  wire_at n E v [] h p e = absurd (cc)
  wire_at n E v (w ∷ ws) h p e = by_wire (WireAt n E p) v w
      (λ t. let found : ◌≡◌ {A = Option Port} (Some w.1) (Some p) = sym (wire_here v w ws t) ∙ e in
      let same : w.1 ≡ p = cc in
      subst (λ q. WireAt n E q) same h.0)
      (λ t. wire_at n E v ws h.1 p (sym (wire_later v w ws t) ∙ e))

  wired_outside : (n : ℕ) (E : Owner) (ws : List (ℕ × Port)) → Wired n E ws → Wired n E (outside ws)
  wired_outside n E [] h = tt
  wired_outside n E (w ∷ ws) h = go (wired_outside n E ws h.1) (nat_lt 0 w.0) refl
    where
      go : Wired n E (outside ws) → (b : Bool) → nat_lt 0 w.0 ≡ b → Wired n E (outside (w ∷ ws))
      go rest true t = rw t (h.0, rest)
      go rest false t = rw t rest

  wired_last : (n : ℕ) (E : Owner) (ws : List (ℕ × Port)) (w : ℕ × Port) → Wired n E ws → WireAt n E w.1 →
      Wired n E (ws ++ w ∷ [])
  wired_last n E [] w h a = (a, tt)
  wired_last n E (u ∷ ws) w h a = (h.0, wired_last n E ws w h.1 a)

  wired_again : (n : ℕ) (E : Owner) (v : ℕ) (p : Port) (ws : List (ℕ × Port)) → Wired n E ws → WireAt n E p →
      Wired n E (reconnected v p ws)
  wired_again n E v p [] h a = tt
  wired_again n E v p (w ∷ ws) h a = go (wired_again n E v p ws h.1 a) (nat_eq w.0 v) refl
    where
      go : Wired n E (reconnected v p ws) → (b : Bool) → nat_eq w.0 v ≡ b → Wired n E (reconnected v p (w ∷ ws))
      go rest true t = rw t (a, h.1)
      go rest false t = rw t (h.0, rest)

  -- ---- fans and brackets

  record Joins (n : ℕ) (E : Owner) (ls : List (Port × Port)) (ws : List (ℕ × Port)) : Type 0 where
    fit : Links L ls
    wired : Wired n E ws

  abbrev HF : Owner → ℕ → Kind → ℕ → Type 0
  HF E x K i = H x K i E

  one_fan : (n k f : ℕ) (E : Owner) (ws : List (ℕ × Port)) (w : ℕ × Port) (x : Option Port) → wire_of w.0 ws ≡ x →
      Holds (HF (updated E n k)) f (fan_nodes n x) → Wired n E ws → WireAt n E w.1 →
      Joins n E (fan_links f x w.1) (merged f x w ws)
  one_fan n k f E ws w None e h g a = record { fit = tt; wired = wired_last n E ws w g a }
  one_fan n k f E ws w (Some p) e h g a =
      let c = below_updated n k f E (below h.0) in
      record {
        fit = (
          from_outer n E (slot_port f 1) p (f, fan_1 h.0.node, c) (wire_at n E w.0 ws g p e),
          (from_outer n E (slot_port f 2) w.1 (f, fan_2 h.0.node, c) a, tt),
        );
        wired = wired_again n E w.0 (slot_port f 0) ws g (f, fan_0 h.0.node, c);
      }

  all_fans : (n k f : ℕ) (E : Owner) (ws more : List (ℕ × Port)) →
      Holds (HF (updated E n k)) f (fans n f ws more).nodes → Wired n E ws → Wired n E more →
      Joins n E (fans n f ws more).links (fans n f ws more).wires
  all_fans n k f E ws [] h g gs = record { fit = tt; wired = g }
  all_fans n k f E ws (w ∷ more) h g gs =
      let f' = f + length (fan_nodes n (wire_of w.0 ws)) in
      let rest = fans n f' (merged f (wire_of w.0 ws) w ws) more in
      let nodes = holds_append (HF (updated E n k)) f f' (fan_nodes n (wire_of w.0 ws)) rest.nodes refl h in
      let one = one_fan n k f E ws w (wire_of w.0 ws) refl nodes.0 g gs.0 in
      let others = all_fans n k f' E (merged f (wire_of w.0 ws) w ws) more nodes.1 one.wired gs.1 in
      record {
        fit = links_join L (fan_links f (wire_of w.0 ws) w.1) rest.links one.fit others.fit;
        wired = others.wired;
      }

  no_app : (m i : ℕ) → kind.Bracket ≡ kind.App → m < i
  no_app m i e = absurd (cc)

  all_brackets : (n k b : ℕ) (E : Owner) (ws : List (ℕ × Port)) →
      Holds (HF (updated E n k)) b (bracket_nodes n ws) → Wired (suc n) (updated E n k) ws →
      Joins n E (bracket_links b ws) (past_brackets b ws)
  all_brackets n k b E [] h g = record { fit = tt; wired = tt }
  all_brackets n k b E (w ∷ ws) h g =
      let rest = all_brackets n k (b + 1) E ws h.1 g.1 in
      record {
        fit = (
          from_outer (suc n) (updated E n k) (slot_port b 1) w.1
              (b, bracket_1 h.0.node, λ m l. h.0.own m (no_app m n)) g.0,
          rest.fit,
        );
        wired = ((b, bracket_0 h.0.node, below_updated n k b E (below h.0)), rest.wired);
      }

  -- ---- terms

  fits_occurrence : (v n k : ℕ) (E : Owner) → H k kind.Croissant n E → FitsPart n E (occurrence v n k)
  fits_occurrence v n k E h = record {
    links = tt;
    root = (k, croissant_1 h.node, below h);
    wires = ((k, croissant_0 h.node, below h), tt);
  }

  bound_link : (n k e : ℕ) (E : Owner) (ws : List (ℕ × Port)) (x : Option Port) → wire_of 0 ws ≡ x →
      H k kind.Lam n E → Holds (HF E) e (erasers x) → Wired n E ws → L (slot_port k 2) (bound_port x e)
  bound_link n k e E ws None q h es g = inr (erases n 0 h.node es.0.node)
  bound_link n k e E ws (Some p) q h es g =
      from_outer n E (slot_port k 2) p (k, lam_2 h.node, below h) (wire_at n E 0 ws g p q)

  fits_abstraction : (n k : ℕ) (E : Owner) (M : Subnet) → H k kind.Lam n E →
      Holds (HF E) (k + 1 + length M.nodes) (erasers (wire_of 0 M.wires)) → FitsPart n E M →
      FitsPart n E (abstraction n k M)
  fits_abstraction n k E M h es part = record {
    links = links_join L M.links ((slot_port k 1, M.root) ∷
        (slot_port k 2, bound_port (wire_of 0 M.wires) (k + 1 + length M.nodes)) ∷ []) part.links (
          two_roots n E (slot_port k 1) M.root (k, lam_1 h.node, below h) part.root,
          (bound_link n k (k + 1 + length M.nodes) E M.wires (wire_of 0 M.wires) refl h es part.wires, tt),
        );
    root = (k, lam_0 h.node, below h);
    wires = wired_outside n E M.wires part.wires;
  }

  module _ (own_box : (x n : ℕ) → HasNode N x kind.App n → boxes x n ≡ x) where
    -- at slot 2 of an application its own box is one more
    own_agrees : (n k : ℕ) (E : Owner) → H k kind.App n E → AgreesWith (suc n) k (updated E n k)
    own_agrees n k E h m b = go (nat_eq m n) refl
      where
        go : (c : Bool) → nat_eq m n ≡ c → boxes k m ≡ updated E n k m
        go true e =
            let same : m ≡ n = grind (arith, nat_tests, e) in
            ap (boxes k) same ∙ own_box k n h.node ∙ sym (updated_at E n k) ∙ ap (updated E n k) (sym same)
        go false e =
            let less : m < n = grind (arith, nat_tests, e, b) in below h m less ∙ sym (updated_below E n k m less)

    fits_application : (n k : ℕ) (E : Owner) (M P : Subnet) → H k kind.App n E →
        Holds (HF (updated E n k)) (k + 1 + length M.nodes + length P.nodes)
        (bracket_nodes n P.wires ++ (fans n (k + 1 + length M.nodes + length P.nodes + length P.wires) M.wires
        (past_brackets (k + 1 + length M.nodes + length P.nodes) P.wires)).nodes) → FitsPart n E M →
        FitsPart (suc n) (updated E n k) P → FitsPart n E (application n k M P)
    fits_application n k E M P h hs left right =
        let b = k + 1 + length M.nodes + length P.nodes in
        let F = fans n (b + length P.wires) M.wires (past_brackets b P.wires) in
        let nodes = holds_append (HF (updated E n k)) b (b + length P.wires) (bracket_nodes n P.wires) F.nodes
        (omega (arith, length-bracket_nodes n P.wires)) hs in
        let brackets = all_brackets n k b E P.wires nodes.0 right.wires in
        let all = all_fans n k (b + length P.wires) E M.wires (past_brackets b P.wires) nodes.1 left.wires
        brackets.wired in
        record {
          links = links_join L (M.links ++ P.links) (((slot_port k 0, M.root) ∷ (slot_port k 2, P.root) ∷ [])
              ++ (bracket_links b P.wires ++ F.links)) (links_join L M.links P.links left.links right.links) (
                two_roots n E (slot_port k 0) M.root (k, app_0 h.node, below h) left.root,
                (
                  two_roots (suc n) (updated E n k) (slot_port k 2) P.root
                      (k, app_2 h.node, own_agrees n k E h) right.root,
                  links_join L (bracket_links b P.wires) F.links brackets.fit all.fit,
                ),
              );
          root = (k, app_1 h.node, below h);
          wires = all.wired;
        }

    fits_application_to : (n k y : ℕ) (E : Owner) (M : Subnet) → H k kind.App n E →
        Holds (HF (updated E n k)) (k + 1 + length M.nodes)
        (fans n (k + 1 + length M.nodes) M.wires ((y, slot_port k 2) ∷ [])).nodes → FitsPart n E M →
        FitsPart n E (application_to n k y M)
    fits_application_to n k y E M h hs part =
        let f = k + 1 + length M.nodes in
        let F = fans n f M.wires ((y, slot_port k 2) ∷ []) in
        let all = all_fans n k f E M.wires ((y, slot_port k 2) ∷ []) hs part.wires
        ((k, bare_2 h.node, below h), tt) in
        record {
          links = links_join L M.links ((slot_port k 0, M.root) ∷ F.links) part.links
              (two_roots n E (slot_port k 0) M.root (k, app_0 h.node, below h) part.root, all.fit);
          root = (k, app_1 h.node, below h);
          wires = all.wired;
        }

    fits_applied : (n k : ℕ) (o : Option ℕ) (E : Owner) (M P : Subnet) (ms ps : List Marked) →
        length ms ≡ length M.nodes → length ps ≡ length P.nodes →
        Has H k (marked_app n k o M P E ms ps) → (Has H (k + 1) ms → FitsPart n E M) →
        (Has H (k + 1 + length M.nodes) ps → FitsPart (n + 1) (updated E n k) P) → FitsPart n E (applied n k o M P)
    fits_applied n k None E M P ms ps e f h ih ih' =
        let b = k + 1 + length M.nodes + length P.nodes in
        let rest = bracket_nodes n P.wires ++ (fans n (b + length P.wires) M.wires (past_brackets b P.wires)).nodes in
        let one = has_append H k b (((kind.App, n, E) ∷ ms) ++ ps) (with_owner (updated E n k) rest)
        (omega (arith, length-append ms ps, e, f)) h in
        let two = has_append H k (k + 1 + length M.nodes) ((kind.App, n, E) ∷ ms) ps (omega (arith, e)) one.0 in
        let s : n + 1 ≡ suc n = omega arith in
        fits_application n k E M P two.0.0 (has_with H (updated E n k) b rest one.1) (ih two.0.1)
        (subst (λ m. FitsPart m (updated E n k) P) s (ih' two.1))
    fits_applied n k (Some y) E M P ms ps e f h ih ih' =
        let rest = (fans n (k + 1 + length M.nodes) M.wires ((y, slot_port k 2) ∷ [])).nodes in
        let one = has_append H k (k + 1 + length M.nodes) ((kind.App, n, E) ∷ ms) (with_owner (updated E n k) rest)
        (omega (arith, e)) h in
        fits_application_to n k y E M one.0.0 (has_with H (updated E n k) (k + 1 + length M.nodes) rest one.1)
        (ih one.0.1)

    pub fits_term : (τ : Translation) (t : Tree) (d n k : ℕ) (E : Owner) → Has H k (marked τ t d n k E) →
        FitsPart n E (subnet_of τ t d n k)
    fits_term τ (var v) d n k E h = fits_occurrence v n k E h.0
    fits_term τ (trees.free f) d n k E h = fits_occurrence (d + f) n k E h.0
    fits_term τ (lam M) d n k E h =
        let P = subnet_of τ M (d + 1) n (k + 1) in
        let ms = marked τ M (d + 1) n (k + 1) E in
        let one = has_append H k (k + 1 + length P.nodes) ((kind.Lam, n, E) ∷ ms)
        (with_owner E (erasers (wire_of 0 P.wires))) (omega (arith, long τ M (d + 1) n (k + 1) E)) h in
        fits_abstraction n k E P one.0.0
        (has_with H E (k + 1 + length P.nodes) (erasers (wire_of 0 P.wires)) one.1)
        (fits_term τ M (d + 1) n (k + 1) E one.0.1)
    fits_term τ (app M Q) d n k E h =
        let left = subnet_of τ M d n (k + 1) in
        let j = k + 1 + length left.nodes in
        fits_applied n k (bare_variable τ d Q) E left (subnet_of τ Q d (n + 1) j) (marked τ M d n (k + 1) E)
        (marked τ Q d (n + 1) j (updated E n k)) (long τ M d n (k + 1) E)
        (long τ Q d (n + 1) j (updated E n k)) h
        (fits_term τ M d n (k + 1) E) (fits_term τ Q d (n + 1) j (updated E n k))
