-- What a seat knows before it draws a ticket, and what it has done after.
-- Used in `begin`, `look_at` and `rewrite`.
use Rattle.std.proofs.Common.{◌≡◌, ℕ, zero, suc, ◌+◌, ◌-◌, ◌<◌, ◌≤◌, ◌⊎◌, Bool, true, false, nat_lt}
use Rattle.std.proofs.Common.{lt-ltb, eq-eqb, ne_eqb, if◌then◌else◌, Some, List, [], ◌∷◌, ◌++◌}
use Rattle.std.proofs.Common.{get_or, sym, refl, ap, ◌∙◌, subst, inl, inr, arith}
use Rattle.std.proofs.lemmas.Bool.{cases_eq, cases_lt}
use Rattle.std.proofs.lemmas.Bool.Decides.{nat_tests}
use Rattle.ol_law_edges.specs.Edges.{IsIn}
use Rattle.ol_net.specs.Parts.{arity}
use Rattle.ol_rules.specs.Listed.{each}
use Rattle.ol_rules.specs.Rewriting.{is_meeting}
use Rattle.ol_rules.proofs.Alike.{meeting_alike}
use Rattle.ol_wire.specs.declared.layout.Parts.{Parts}
use Rattle.ol_wire.specs.declared.rewrite.Rewrite.{Rewrite}
use Rattle.ol_wire.specs.declared.view.Link.{Link}
use Rattle.ol_wire.specs.declared.view.View.{View}
use Rattle.ol_wire.specs.References.{kind_in, index_in, place_in}
use Rattle.ol_wire.specs.Layout.{block, born_cell}
use Rattle.ol_wire.specs.Events.{Event, rule_between, entry_of}
use Rattle.ol_wire.specs.Blocks.{block_words}
use Rattle.ol_wire.specs.LinkLists.{born_ref, to_write, joins_in, link_of, links_of}
use Rattle.ol_wire.specs.Plays.{event_in, cell_at, swept_on}
use Rattle.ol_wire.specs.StepPlays.{IsNodeOf, IsRefOf, IsLookedUp, known_at, ticketed, late, rest, cell_in_hand, owing}
use Rattle.ol_wire.specs.Rewrites.{event_for}
use Rattle.ol_wire.specs.InHand.{in_hand, IsInHand, IsOfPair, IsSure, AreFields, AreRefs, fields_known, Rewrote}
use Rattle.ol_law_edges.proofs.Lists.{in_left, in_right}
use Rattle.ol_rules.proofs.Born.{at_most_two}
use Rattle.ol_wire.proofs.Ticket.Event.{event_sides}

pub same_pair : (w y a b : ℕ) → w ≡ a → y ≡ b → ◌≡◌ {A = ℕ × ℕ} (w, y) (a, b)
same_pair w y a b e f = cc

-- what is known first of a word is known of it
known_there : (w y : ℕ) (l : List (ℕ × ℕ)) → IsIn {X = ℕ × ℕ} (w, y) l → IsIn {X = ℕ × ℕ} (w, known_at l w) l
known_there w y [] h = elim h [ ]
known_there w y (k ∷ l) (inl e) = inl (first (sym (ap (λ (q : ℕ × ℕ). q.0) e)))
  where
    first : k.0 ≡ w → ◌≡◌ {A = ℕ × ℕ} (w, known_at (k ∷ l) w) k
    first d = same_pair w (known_at (k ∷ l) w) k.0 k.1 (sym d)
        (ap (λ b. if b then k.1 else known_at l w) (eq-eqb k.0 w d))
known_there w y (k ∷ l) (inr i) = either (known_there w y l i)
  where
    either : IsIn {X = ℕ × ℕ} (w, known_at l w) l → IsIn {X = ℕ × ℕ} (w, known_at (k ∷ l) w) (k ∷ l)
    either h = elim (cases_eq k.0 w) [
      | inl d ↦ inl (same_pair w (known_at (k ∷ l) w) k.0 k.1 (sym d)
          (ap (λ b. if b then k.1 else known_at l w) (eq-eqb k.0 w d)))
      | inr d ↦ inr (subst (λ (n : ℕ). IsIn {X = ℕ × ℕ} (w, n) l)
          (sym (ap (λ b. if b then k.1 else known_at l w) (ne_eqb k.0 w d))) h)
    ]

field_there : (n place c : ℕ) (found : List ℕ) → c < n → n ≤ 2 →
    (y : ℕ) × IsIn {X = ℕ × ℕ} (place + c, y) (fields_known n place found)
field_there zero place c found lt le = absurd (omega arith)
field_there (suc zero) place c found lt le = (
  get_or found 0 0,
  inl (same_pair (place + c) (get_or found 0 0) (place + 0) (get_or found 0 0) (omega arith) refl),
)
field_there (suc (suc n)) place c found lt le = elim (cases_eq c 0) [
  | inl e ↦ (
    get_or found 0 0,
    inr (inl
        (same_pair (place + c) (get_or found 0 0) (place + 0) (get_or found 0 0) (omega arith) refl)),
  )
  | inr d ↦ (
    get_or found 1 0,
    inl (same_pair (place + c) (get_or found 1 0) (place + 1)
        (get_or found 1 0) (omega arith) refl),
  )
]

-- the sides of a rewrite of the pair that was claimed last
pub of_pair : (v : View) (r : Rewrite) → event_for r ≡ event_in v → IsOfPair v r.f × IsOfPair v r.g
of_pair v r is = of (event_sides v.last.0 v.last.1)
  where
    f : r.f ≡ (event_in v).f
    f = ap (λ (e : Event). e.f) is

    g : r.g ≡ (event_in v).g
    g = ap (λ (e : Event). e.g) is

    of : (((event_in v).f ≡ v.last.0) × ((event_in v).g ≡ v.last.1))
        ⊎ (((event_in v).f ≡ v.last.1) × ((event_in v).g ≡ v.last.0)) → IsOfPair v r.f × IsOfPair v r.g
    of (inl t) = (inl (f ∙ t.0), inr (g ∙ t.1))
    of (inr t) = (inr (f ∙ t.0), inl (g ∙ t.1))

pub node_in_hand : (v : View) (w r : ℕ) → IsInHand v w → IsOfPair v r → IsNodeOf v.parts r
node_in_hand v w r h (inl e) = subst (IsNodeOf v.parts) (sym e) h.nodes.0
node_in_hand v w r h (inr e) = subst (IsNodeOf v.parts) (sym e) h.nodes.1

-- the view with the fields of the two nodes known
abbrev pub seen : View → Rewrite → List ℕ → List ℕ → List (ℕ × ℕ)
seen v r a b = fields_known (arity (kind_in r.g)) (place_in r.g) b ++
    (fields_known (arity (kind_in r.f)) (place_in r.f) a ++ v.known)

pub looked_up : (v : View) (w : ℕ) (r : Rewrite) (a b : List ℕ) (n : ℕ) → 0 < v.holds →
    n ≡ joins_in (event_for r) → IsInHand v w → v.due ≡ [] → v.pending ≡ [] → v.over ≡ false →
    event_for r ≡ event_in v → rule_between r.f r.g ≡ Some r.rule
    → IsLookedUp (record v { known = seen v r a b; owed = n }) w
looked_up v w r a b n held count hand due pending under is rule = record {
  held = held;
  under = under;
  taken = hand.taken;
  nothing_due = due;
  nothing_pending = pending;
  right = in_right _ of_g (of_f ++ v.known) (in_right _ of_f v.known hand.right);
  rule = subst (λ (e : Event). rule_between e.f e.g ≡ Some e.rule) is rule;
  owed = count ∙ ap joins_in is;
  f_fields = subst (λ (e : Event). (c : ℕ) → c < arity (kind_in e.f) →
      IsIn (place_in e.f + c, known_at (seen v r a b) (place_in e.f + c)) (seen v r a b)) is f_there;
  g_fields = subst (λ (e : Event). (c : ℕ) → c < arity (kind_in e.g) →
      IsIn (place_in e.g + c, known_at (seen v r a b) (place_in e.g + c)) (seen v r a b)) is g_there;
}
  where
    of_f : List (ℕ × ℕ)
    of_f = fields_known (arity (kind_in r.f)) (place_in r.f) a

    of_g : List (ℕ × ℕ)
    of_g = fields_known (arity (kind_in r.g)) (place_in r.g) b

    f_there : (c : ℕ) → c < arity (kind_in r.f) →
        IsIn (place_in r.f + c, known_at (seen v r a b) (place_in r.f + c)) (seen v r a b)
    f_there c lt =
        let h = field_there (arity (kind_in r.f)) (place_in r.f) c a lt (at_most_two (kind_in r.f)) in
        known_there (place_in r.f + c) h.0 (seen v r a b)
        (in_right _ of_g (of_f ++ v.known) (in_left _ of_f v.known h.1))

    g_there : (c : ℕ) → c < arity (kind_in r.g) →
        IsIn (place_in r.g + c, known_at (seen v r a b) (place_in r.g + c)) (seen v r a b)
    g_there c lt =
        let h = field_there (arity (kind_in r.g)) (place_in r.g) c b lt (at_most_two (kind_in r.g)) in
        known_there (place_in r.g + c) h.0 (seen v r a b) (in_left _ of_g (of_f ++ v.known) h.1)

-- two looks, one after the other
pub looked_twice : (v v1 v2 : View) (r : Rewrite) (a b : List ℕ)
    → v1 ≡ record v { known = fields_known (arity (kind_in r.f)) (place_in r.f) a ++ v.known }
    → v2 ≡ record v1 { known = fields_known (arity (kind_in r.g)) (place_in r.g) b ++ v1.known }
    → v2 ≡ record v { known = seen v r a b }
looked_twice v v1 v2 r a b e f = f ∙ ap
    (λ (u : View). record u { known = fields_known (arity (kind_in r.g)) (place_in r.g) b ++ u.known }) e

-- then its links are owed
pub owed_after : (v v2 v3 : View) (ks : List (ℕ × ℕ)) (n : ℕ) → v.owed ≡ 0 →
    v2 ≡ record v { known = ks } → v3 ≡ owing v2 n → v3 ≡ record v { known = ks; owed = n }
owed_after v v2 v3 ks n none e f =
    let all : v.owed + n ≡ n = omega (arith, none) in
    f ∙ ap (λ (u : View). owing u n) e ∙ ap (λ (m : ℕ). record v { known = ks; owed = m }) all

-- and the fuel is used up
pub late_told : (v v3 n : View) (ks : List (ℕ × ℕ)) (j : ℕ) →
    v3 ≡ record v { known = ks; owed = j } → n ≡ late v3 → n ≡ record v { known = n.known; over = true; owed = j }
late_told v v3 n ks j e f =
    let whole : n ≡ record v { known = ks; over = true; owed = j } = f ∙ ap late e in
    whole ∙ ap (λ (l : List (ℕ × ℕ)). record v { known = l; over = true; owed = j })
    (sym (ap (λ (u : View). u.known) whole))

-- the pair is still in hand
pub owing_in_hand : (v : View) (w : ℕ) (r : Rewrite) (a b : List ℕ) → IsInHand v w →
    IsInHand (record v { known = seen v r a b }) w
owing_in_hand v w r a b hand = record {
  taken = hand.taken;
  right = in_right _ (fields_known (arity (kind_in r.g)) (place_in r.g) b)
      (fields_known (arity (kind_in r.f)) (place_in r.f) a ++ v.known)
      (in_right _ (fields_known (arity (kind_in r.f)) (place_in r.f) a) v.known hand.right);
  nodes = hand.nodes;
}

-- after the looks the pair is in hand as before, also where the fuel is used up
pub still_in_hand : (v : View) (w : ℕ) (r : Rewrite) (a b : List ℕ) (n : ℕ) → IsInHand v w →
    IsInHand (late (record v { known = seen v r a b; owed = n })) w
still_in_hand v w r a b n hand = record {
  taken = hand.taken;
  right = in_right _ (fields_known (arity (kind_in r.g)) (place_in r.g) b)
      (fields_known (arity (kind_in r.f)) (place_in r.f) a ++ v.known)
      (in_right _ (fields_known (arity (kind_in r.f)) (place_in r.f) a) v.known hand.right);
  nodes = hand.nodes;
}

-- the words of the ticket
pub due_of_ticket : (v : View) (r : Rewrite) (ks : List (ℕ × ℕ)) (t : ℕ) →
    event_for r ≡ event_in v → (ticketed (record v { known = ks }) t).due ≡ to_write
    (block v.parts t) (block_words v.parts (event_for r) t)
due_of_ticket v r ks t is = ap (λ (e : Event). to_write (block v.parts t) (block_words v.parts e t)) (sym is)

each_same : {X : Type 0} (n : ℕ) (f g : ℕ → List X) → ((j : ℕ) → j < n → f j ≡ g j) → each n f ≡ each n g
each_same zero f g same = refl
each_same (suc n) f g same = ap (λ xs. xs ++ f n)
    (each_same n f g (λ j lt. same j (omega (arith, lt)))) ∙ ap (λ xs. each n g ++ xs) (same n (omega arith))

-- the links of a ticket, by what the fields of its two nodes hold
module _ (z : Parts) (e : Event) (t : ℕ) (a b c d : ℕ → ℕ)
    (fits : rule_between e.f e.g ≡ Some e.rule)
    (of_f : (s : ℕ) → s < arity (kind_in e.f) → a s ≡ c s) (of_g : (s : ℕ) → s < arity (kind_in e.g) → b s ≡ d s) where
  link_same : (j : ℕ) → j < joins_in e → link_of z e t a b j ≡ link_of z e t c d j
  link_same j lt = go (is_meeting e.rule) refl lt
    where
      shape : ℕ → ℕ → Link
      shape one two = record { cell = born_cell z t j; one = one; two = two }

      two_same : (n m : ℕ) → n ≡ arity (kind_in e.g) → m ≡ arity (kind_in e.f) → j < n + m →
          (if nat_lt j n then b j else a (j - n)) ≡ (if nat_lt j n then d j else c (j - n))
      two_same n m p q small = elim (cases_lt j n) [
        | inl below ↦ ap (λ x. if x then b j else a (j - n)) (lt-ltb j n below)
            ∙ of_g j (omega (arith, p, below)) ∙ sym (ap (λ x. if x then d j else c (j - n)) (lt-ltb j n below))
        | inr above ↦
            let x : nat_lt j n ≡ false = grind (arith, nat_tests) in
            ap (λ y. if y then b j else a (j - n)) x ∙ of_f (j - n) (omega (arith, q, small, above))
            ∙ sym (ap (λ y. if y then d j else c (j - n)) x)
      ]

      go : (m : Bool) → is_meeting e.rule ≡ m →
          j < (if m then arity (kind_in e.f) else (if m then 0 else arity (kind_in e.g)) +
          (if m then 0 else arity (kind_in e.f)))
          → shape (if m then a j else born_ref z e t j)
          (if m then b j else if nat_lt j (if m then 0 else arity (kind_in e.g)) then b j else a
          (j - (if m then 0 else arity (kind_in e.g))))
          ≡ shape (if m then c j else born_ref z e t j)
          (if m then d j else if nat_lt j (if m then 0 else arity (kind_in e.g)) then d j else c
          (j - (if m then 0 else arity (kind_in e.g))))
      go true q small = ap (λ x. shape x (b j)) (of_f j small)
          ∙ ap (shape (c j)) (of_g j (omega (
            arith,
            small,
            meeting_alike (kind_in e.f) (index_in e.f) (kind_in e.g) (index_in e.g) e.rule fits q,
          )))
      go false q small = ap (shape (born_ref z e t j))
          (two_same (arity (kind_in e.g)) (arity (kind_in e.f)) refl refl small)

  links_same : links_of z e t a b ≡ links_of z e t c d
  links_same = each_same (joins_in e) (λ j. link_of z e t a b j ∷ [])
      (λ j. link_of z e t c d j ∷ []) (λ j lt. ap (λ l. l ∷ []) (link_same j lt))

-- what is known of one word alone is what is found first
known_sure : (known : List (ℕ × ℕ)) (w y : ℕ) → IsSure known w y → known_at known w ≡ y
known_sure known w y sure = sure.1 (known_at known w) (known_there w y known sure.0)

-- a word more is known, and it agrees with what was known of it
module _ (known : List (ℕ × ℕ)) (u x : ℕ) (same : (y : ℕ) → IsIn (u, y) known → y ≡ x) where
  pub sure_more : (w y : ℕ) → IsSure known w y → IsSure ((u, x) ∷ known) w y
  sure_more w y sure = (inr sure.0, only)
    where
      only : (x' : ℕ) → IsIn {X = ℕ × ℕ} (w, x') ((u, x) ∷ known) → x' ≡ y
      only x' (inl e) = ap (λ (q : ℕ × ℕ). q.1) e
          ∙ sym (same y (subst (λ (n : ℕ). IsIn {X = ℕ × ℕ} (n, y) known) (ap (λ (q : ℕ × ℕ). q.0) e) sure.0))
      only x' (inr m) = sure.1 x' m

  pub sure_now : IsSure ((u, x) ∷ known) u x
  sure_now = (inl refl, only)
    where
      only : (x' : ℕ) → IsIn {X = ℕ × ℕ} (u, x') ((u, x) ∷ known) → x' ≡ x
      only x' (inl e) = ap (λ (q : ℕ × ℕ). q.1) e
      only x' (inr m) = same x' m

pub keeps_sure : (known more : List (ℕ × ℕ)) (u x : ℕ) → more ≡ (u, x) ∷ known →
    ((y : ℕ) → IsIn (u, y) known → y ≡ x) → (w y : ℕ) → IsSure known w y → IsSure more w y
keeps_sure known more u x e same w y sure = subst (λ (l : List (ℕ × ℕ)). IsSure l w y) (sym e)
    (sure_more known u x same w y sure)

now_sure : (known more : List (ℕ × ℕ)) (u x : ℕ) → more ≡ (u, x) ∷ known →
    ((y : ℕ) → IsIn (u, y) known → y ≡ x) → IsSure more u x
now_sure known more u x e same = subst (λ (l : List (ℕ × ℕ)). IsSure l u x) (sym e) (sure_now known u x same)

-- the fields of a node, by looks at them
pub one_field : (known more : List (ℕ × ℕ)) (node a : ℕ) → arity (kind_in node) ≤ 1 →
    more ≡ (place_in node + 0, a) ∷ known → ((y : ℕ) → IsIn (place_in node + 0, y) known → y ≡ a) →
    AreFields more node (a ∷ 0 ∷ [])
one_field known more node a few e same zero lt = now_sure known more (place_in node + 0) a e same
one_field known more node a few e same (suc s) lt = absurd (omega (arith, few, lt))

pub two_fields : (known more most : List (ℕ × ℕ)) (node a b : ℕ) →
    more ≡ (place_in node + 0, a) ∷ known → ((y : ℕ) → IsIn (place_in node + 0, y) known → y ≡ a)
    → most ≡ (place_in node + 1, b) ∷ more → ((y : ℕ) → IsIn (place_in node + 1, y) more → y ≡ b) →
    AreFields most node (a ∷ b ∷ [])
two_fields known more most node a b e same f twice zero lt = keeps_sure more most
    (place_in node + 1) b f twice (place_in node + 0) a (now_sure known more (place_in node + 0) a e same)
two_fields known more most node a b e same f twice (suc zero) lt = now_sure more most (place_in node + 1) b f twice
two_fields known more most node a b e same f twice (suc (suc s)) lt = absurd
    (omega (arith, at_most_two (kind_in node), lt))

-- the ticket is drawn, and its words are written
pub rewritten : (v v2 v3 v4 : View) (w t : ℕ) (r : Rewrite) (ks : List (ℕ × ℕ))
    (of_f of_g : List ℕ) → IsInHand v w → v.due ≡ [] → event_for r ≡ event_in v →
    rule_between r.f r.g ≡ Some r.rule → AreFields ks r.f of_f → AreFields ks r.g of_g
    → v2 ≡ record v { known = ks; owed = joins_in (event_in v) } → v3 ≡ ticketed v2 t →
    v4 ≡ record v3 { due = [] } → Rewrote v t of_f of_g v4
rewritten v v2 v3 v4 w t r ks of_f of_g hand due is fits f_known g_known e2 e3 e4 = record {
  view = whole ∙ ap (λ (l : List (ℕ × ℕ)). left l [] links)
      (ap (λ (l : List (ℕ × ℕ)). rest l) hand.taken)
      ∙ ap (λ (l : List (ℕ × ℕ)). left [] l links) (sym due) ∙ ap (left [] v.due) (sym pending);
  links = pending ∙ same;
}
  where
    left : List (ℕ × ℕ) → List (ℕ × ℕ) → List Link → View
    left taken d ls = record v {
      taken = taken;
      known = [];
      swept = swept_on v (cell_at v.parts (cell_in_hand v.taken));
      made = v.made ++ (t, entry_of v.parts (event_in v)) ∷ [];
      due = d;
      pending = ls;
      owed = suc (joins_in (event_in v));
    }

    links : List Link
    links = links_of v.parts (event_in v) t (λ s. known_at ks (place_in (event_in v).f + s))
        (λ s. known_at ks (place_in (event_in v).g + s))

    whole : v4 ≡ left (rest v.taken) [] links
    whole = e4 ∙ ap (λ (u : View). record u { due = [] }) (e3 ∙ ap (λ (u : View). ticketed u t) e2)

    pending : v4.pending ≡ links
    pending = ap (λ (u : View). u.pending) whole

    Same : Event → Type 0
    Same e = links_of v.parts e t (λ s. known_at ks (place_in e.f + s))
        (λ s. known_at ks (place_in e.g + s)) ≡ links_of v.parts e t (λ s. get_or of_f s 0) (λ s. get_or of_g s 0)

    same : Same (event_in v)
    same = subst Same is (links_same v.parts (event_for r) t _ _ (λ s. get_or of_f s 0) (λ s. get_or of_g s 0) fits
        (λ s lt. known_sure ks (place_in r.f + s) (get_or of_f s 0) (f_known s lt))
        (λ s lt. known_sure ks (place_in r.g + s) (get_or of_g s 0) (g_known s lt)))

-- the view with the pair in hand
pub hand_of : (z : Parts) (v n : View) (w c : ℕ) (pair : ℕ × ℕ) → v.parts ≡ z →
    n ≡ in_hand v w c pair → IsNodeOf z pair.0 → IsNodeOf z pair.1 → IsInHand n w
hand_of z v n w c pair parts is f g = subst (λ (u : View). IsInHand u w) (sym is) hand
  where
    hand : IsInHand (in_hand v w c pair) w
    hand = record {
      taken = refl;
      right = inl refl;
      nodes = (
        subst (λ (y : Parts). IsNodeOf y pair.0) (sym parts) f,
        subst (λ (y : Parts). IsNodeOf y pair.1) (sym parts) g,
      );
    }

-- the fields that the looks found are references
pub one_ref : (z : Parts) (node a : ℕ) → arity (kind_in node) ≤ 1 → IsRefOf z a → AreRefs z node (a ∷ 0 ∷ [])
one_ref z node a few h zero lt = h
one_ref z node a few h (suc s) lt = absurd (omega (arith, few, lt))

pub two_refs : (z : Parts) (node a b : ℕ) → IsRefOf z a → IsRefOf z b → AreRefs z node (a ∷ b ∷ [])
two_refs z node a b h g zero lt = h
two_refs z node a b h g (suc zero) lt = g
two_refs z node a b h g (suc (suc s)) lt = absurd (omega (arith, at_most_two (kind_in node), lt))
