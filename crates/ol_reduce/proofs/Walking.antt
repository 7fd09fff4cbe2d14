-- What walking the chain of one port does, over all nets that the words stand for.
use Rattle.std.proofs.Common.{◌≡◌, ◌≢◌, ℕ, ◌+◌, ◌-◌, ◌*◌, ◌<◌, ◌⊎◌, Bool, List, length, slice_index}
use Rattle.std.proofs.Common.{slice_set, inl, inr, refl, sym, ap, ◌∙◌, subst, arith}
use Rattle.std.proofs.lemmas.Bool.{cases_eq}
use Rattle.ol_net.specs.declared.parts.Kind.{Kind}
use Rattle.ol_net.specs.Nets.{NamedNet, Linked}
use Rattle.ol_net.specs.Pairing.{other}
use Rattle.ol_net.specs.Linking.{linked}
use Rattle.ol_net.proofs.Tables.{length-linked}
use Rattle.ol_rules.specs.declared.journal.NodeName.{NodeName}
use Rattle.ol_wire.specs.declared.layout.Parts.{Parts}
use Rattle.ol_wire.specs.References.{place_in, wire_ref}
use Rattle.ol_wire.specs.Layout.{port_word, part_of_word}
use Rattle.ol_wire.specs.Stands.{IsEnd, of_port}
use Rattle.ol_wire.specs.Closed.{ClosedTable, events_in}
use Rattle.ol_wire.specs.Standing.{is_reached_in, WordsStandFor}
use Rattle.ol_reduce.specs.declared.chains.Goal.{Goal}
use Rattle.ol_reduce.specs.declared.chains.Goal.TheVariants.{Node, Port, Wire}
use Rattle.ol_reduce.specs.Left.{ranks_in, AreLeft}
use Rattle.ol_reduce.specs.Following.{IsStart, IsFirst, EndsAt}
use Rattle.ol_reduce.specs.Used.{wires_used}
use Rattle.ol_reduce.specs.Found.{port_of, IsKnown, IsPartial, AreMet, IsPartly, AreMetTo, IsNodeIn, IsSiteIn, IsWordAt}
use Rattle.ol_reduce.specs.Found.{KeepsPartners, wire_word, IsStartWire, IsBornWire}
use Rattle.ol_reduce.proofs.Arriving.{Told}
use Rattle.ol_reduce.proofs.Bounded.{led_used}
use Rattle.ol_reduce.proofs.Forward.{goes_linked}
use Rattle.ol_reduce.proofs.Sites.{port_free}
use Rattle.ol_reduce.proofs.Wires.{wire_below, wire_spot}
use Rattle.ol_reduce.proofs.Linking.{still_linked, led_node, linked_partial, ends_apart}
use Rattle.ol_reduce.proofs.Meeting.{skip_met, link_met, wait_met, waiting}

module _ (w : ClosedTable) (places numbers : List ℕ) (left_are : AreLeft w (ranks_in w) places numbers) (told : Told w)
    (kinds : List (Kind × ℕ)) (partners met : List ℕ) (a n : ℕ) (low : a < length partners)
    (no_slot : (m : ℕ) → a ≢ w.plan.parts.free + 3 * m) (is_word : IsWordAt w places a n)
    (before : IsPartly w places kinds partners) (are : AreMetTo w places partners met a) (first : ℕ)
    (read : first ≡ slice_index w.words n) where
  abbrev z : Parts
  z = w.plan.parts

  abbrev After : List (Kind × ℕ) → List ℕ → List ℕ → Type 0
  After ks ps ms = IsPartly w places ks ps × AreMetTo w places ps ms (a + 1)

  pub empty_done : first ≡ 0 → After kinds partners met
  empty_done e = (
    before,
    λ N reached s.
        skip_met w places numbers left_are N reached s kinds partners met a n low (before N reached s)
        (are N reached s) (is_word N reached s) (sym read ∙ e),
  )

  -- ---- a link

  abbrev AllLinked : ℕ → Type 0
  AllLinked b = (N : NamedNet NodeName) (reached : ℕ → Bool) → WordsStandFor w N reached →
      Linked N (port_of z places a) (port_of z places b)

  module _ (kinds1 kinds3 : List (Kind × ℕ)) (partners1 partners3 : List ℕ) (b : ℕ)
      (p1 : partners1 ≡ partners) (after1 : IsPartly w places kinds1 partners1)
      (ltb : b < length partners) (link : AllLinked b)
      (known : (N : NamedNet NodeName) (reached : ℕ → Bool) → WordsStandFor w N reached →
      IsKnown w N places kinds1 b) (k3 : kinds3 ≡ kinds1) (p3 : partners3 ≡ linked partners1 a b) where
    low1 : a < length partners1
    low1 = omega (arith, low, ap (λ (l : List ℕ). length l) p1)

    ltb1 : b < length partners1
    ltb1 = omega (arith, ltb, ap (λ (l : List ℕ). length l) p1)

    pub link_done : After kinds3 partners3 met
    link_done = (
      (λ N reached s. subst (λ ks. IsPartial w N places ks partners3) (sym k3)
          (subst (λ ps. IsPartial w N places kinds1 ps) (sym p3)
          (linked_partial w places numbers left_are N reached s kinds1 partners1
          (after1 N reached s) a b low1 ltb1 (link N reached s)
          (λ m ltm e. absurd (no_slot m e)) (known N reached s)))),
      (λ N reached s. subst (λ ps. AreMet w N reached places ps met (a + 1)) (sym p3)
          (link_met w places numbers left_are N reached s kinds1 partners1 met a n low1
          (after1 N reached s) (subst (λ ps. AreMet w N reached places ps met a) (sym p1)
          (are N reached s)) (is_word N reached s) b ltb1 (link N reached s))),
    )

    pub link_keeps : KeepsPartners partners partners3 × (length partners3 ≡ length partners)
    link_keeps = (
      (λ c h. subst (λ ps. other ps c ≢ c) (sym p3)
          (still_linked partners1 a b low1 ltb1
          (ends_apart w places numbers left_are told.0 (is_reached_in w) told.2 kinds1 partners1
          (after1 told.0 (is_reached_in w) told.2) a b low1 ltb1
          (link told.0 (is_reached_in w) told.2)) c (subst (λ ps. other ps c ≢ c) (sym p1) h))),
      ap (λ (l : List ℕ). length l) p3 ∙ length-linked partners1 a b ∙ ap (λ (l : List ℕ). length l) p1,
    )

  -- ---- where the chain ends

  module _ (filled : first ≢ 0) where
    abbrev Own : NamedNet NodeName → (ℕ → Bool) → Type 0
    Own N reached = (e : ℕ) × IsEnd z N (port_of z places a) e × IsStart w N reached e first

    own : (N : NamedNet NodeName) (reached : ℕ → Bool) → WordsStandFor w N reached → Own N reached
    own N reached s = let t = (is_word N reached s).owned (λ q. filled (read ∙ q)) in
        (t.0, t.1, subst (λ v. IsStart w N reached t.0 v) (sym read) t.2)

    pub is_first : IsFirst w first
    is_first = let t = own told.0 (is_reached_in w) told.2 in (told.0, (is_reached_in w), t.0, told.2, t.2)

    abbrev Ends : Goal → Type 0
    Ends r = (N : NamedNet NodeName) (reached : ℕ → Bool) (e : ℕ) → WordsStandFor w N reached →
        IsStart w N reached e first → EndsAt w N reached e r

    pub node_in : (found : Goal) (r : ℕ) → found ≡ Node r → Ends found → IsNodeIn w r
    node_in found r q h N reached s =
        let t = own N reached s in
        let d = subst (λ f. EndsAt w N reached t.0 f) q (h N reached t.0 s t.2) in
        led_node w places numbers left_are N reached s t.0 r d.1 d.0

    pub node_linked : (found : Goal) (r : ℕ) → found ≡ Node r → Ends found →
        (ks : List (Kind × ℕ)) (b : ℕ) → IsSiteIn w places ks r b → AllLinked b
    node_linked found r q h ks b site N reached s =
        let t = own N reached s in
        let d = subst (λ f. EndsAt w N reached t.0 f) q (h N reached t.0 s t.2) in
        goes_linked w N reached s (port_of z places a) (port_of z places b) t.0 r t.1 (site N reached s).0 d.1

    pub port_low : (found : Goal) (k : ℕ) → found ≡ Port k → Ends found → k < z.free
    port_low found k q h =
        let t = own told.0 (is_reached_in w) told.2 in
        (subst (λ f. EndsAt w told.0 (is_reached_in w) t.0 f) q (h told.0 (is_reached_in w) t.0 told.2 t.2)).0

    pub port_within : (found : Goal) (k : ℕ) → found ≡ Port k → Ends found → k < length partners
    port_within found k q h = omega (
      arith,
      port_low found k q h,
      (before told.0 (is_reached_in w) told.2).partners_long,
    )

    pub port_linked : (found : Goal) (k : ℕ) → found ≡ Port k → Ends found → AllLinked k
    port_linked found k q h N reached s =
        let t = own N reached s in
        let d = subst (λ f. EndsAt w N reached t.0 f) q (h N reached t.0 s t.2) in
        let at : IsEnd z N (port_of z places k) (wire_ref (port_word k)) = subst
        (λ p. IsEnd z N p (wire_ref (port_word k)))
        (sym (port_free w places numbers left_are k d.0)) (of_port (omega (arith, d.0, s.ports))) in
        goes_linked w N reached s (port_of z places a) (port_of z places k) t.0 (wire_ref (port_word k)) t.1 at d.1

    pub port_known : (found : Goal) (k : ℕ) → found ≡ Port k → Ends found →
        (N : NamedNet NodeName) (reached : ℕ → Bool) → WordsStandFor w N reached → IsKnown w N places kinds k
    port_known found k q h N reached s m ltm e = absurd (omega (arith, e, port_low found k q h))

    -- a wire, by its word
    pub wire_at : (found : Goal) (n : ℕ) → found ≡ Wire n → Ends found → IsStartWire z n ⊎ IsBornWire z n
    wire_at found n q h =
        let t = own told.0 (is_reached_in w) told.2 in
        let d = subst (λ f. EndsAt w told.0 (is_reached_in w) t.0 f) q (h told.0 (is_reached_in w) t.0 told.2 t.2) in
        wire_spot z n (part_of_word z n) refl (told.2.wires n d.0)

    module _ (long : length met ≡ wires_used w) (found : Goal) (n' u : ℕ) (q' : found ≡ Wire n')
        (number : wire_word w.plan.parts u ≡ n') (h : Ends found) where
      q : found ≡ Wire (wire_word z u)
      q = q' ∙ ap (λ n. Wire n) (sym number)

      ends_at : (N : NamedNet NodeName) (reached : ℕ → Bool) → (s : WordsStandFor w N reached) →
          EndsAt w N reached (own N reached s).0 (Wire (wire_word z u))
      ends_at N reached s = let t = own N reached s in subst (λ f. EndsAt w N reached t.0 f) q (h N reached t.0 s t.2)

      pub wire_within : u < length met
      wire_within =
          let r = led_used w told.0 (is_reached_in w) told.2 (own told.0 (is_reached_in w) told.2).0
          (wire_ref (wire_word z u)) (ends_at told.0 (is_reached_in w) told.2).2 in
          let p : place_in (wire_ref (wire_word z u)) ≡ wire_word z u = omega arith in
          omega (arith, wire_below z (events_in z w.words) u (omega (arith, r, p)), long)

      -- the one that waits there
      waits : (N : NamedNet NodeName) (reached : ℕ → Bool) → WordsStandFor w N reached →
          slice_index met u ≢ 0 → (slice_index met u - 1 < length partners)
          × Linked N (port_of z places a) (port_of z places (slice_index met u - 1))
          × IsKnown w N places kinds (slice_index met u - 1)
      waits N reached s f =
          let t = own N reached s in
          waiting w places numbers left_are N reached s kinds partners met a n low
          (before N reached s) (are N reached s) (is_word N reached s) u
          (slice_index met u) refl f t.0 t.1 (ends_at N reached s).2

      pub other_within : slice_index met u ≢ 0 → slice_index met u - 1 < length partners
      other_within f = (waits told.0 (is_reached_in w) told.2 f).0

      module _ (kinds3 : List (Kind × ℕ)) (partners3 met3 : List ℕ) (k3 : kinds3 ≡ kinds)
          (wait : slice_index met u ≡ 0 → (met3 ≡ slice_set met u (a + 1)) × (partners3 ≡ partners))
          (link : slice_index met u ≢ 0 → (met3 ≡ met) × (partners3 ≡ linked partners a (slice_index met u - 1))) where
        pub wire_done : After kinds3 partners3 met3
        wire_done = elim (cases_eq (slice_index met u) 0) [
          | inl e ↦ waited e (wait e)
          | inr f ↦ met_one f (link f)
        ]
          where
            waited : slice_index met u ≡ 0 → (met3 ≡ slice_set met u (a + 1))
                × (partners3 ≡ partners) → IsPartly w places kinds3 partners3 × AreMetTo w places partners3 met3 (a + 1)
            waited e t = (
              (λ N reached s. subst (λ ks. IsPartial w N places ks partners3) (sym k3)
                  (subst (λ ps. IsPartial w N places kinds ps) (sym t.1) (before N reached s))),
              (λ N reached s. subst (λ ps. AreMet w N reached places ps met3 (a + 1)) (sym t.1)
                  (subst (λ ms. AreMet w N reached places partners ms (a + 1)) (sym t.0)
                  (let o = own N reached s in let d = ends_at N reached s in
                  wait_met w places numbers left_are N reached s kinds partners met a n low
                  (before N reached s) (are N reached s)
                  (is_word N reached s) o.0 u o.1 d.0 d.1 d.2 e wire_within))),
            )

            met_one : (f : slice_index met u ≢ 0) →
                (met3 ≡ met) × (partners3 ≡ linked partners a (slice_index met u - 1)) →
                IsPartly w places kinds3 partners3 × AreMetTo w places partners3 met3 (a + 1)
            met_one f t =
                let d = link_done kinds kinds3 partners partners3
                (slice_index met u - 1) refl before (other_within f)
                (λ N reached s. (waits N reached s f).1) (λ N reached s. (waits N reached s f).2) k3 t.1 in
                (d.0, subst (λ ms. AreMetTo w places partners3 ms (a + 1)) (sym t.0) d.1)

        pub wire_keeps : KeepsPartners partners partners3 × (length partners3 ≡ length partners)
        wire_keeps = elim (cases_eq (slice_index met u) 0) [
          | inl e ↦ ((λ c g. subst (λ ps. other ps c ≢ c) (sym (wait e).1) g), ap (λ (l : List ℕ). length l) (wait e).1)
          | inr f ↦ link_keeps kinds kinds3 partners partners3 (slice_index met u - 1) refl before
              (other_within f) (λ N reached s. (waits N reached s f).1)
              (λ N reached s. (waits N reached s f).2) k3 (link f).1
        ]
