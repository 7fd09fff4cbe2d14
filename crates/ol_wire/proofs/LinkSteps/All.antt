-- How a seat makes the links of its rewrite: one link by exchanges, and then one after the other.
-- Used in Steps.Turn, `link` and `link_all`.
use Rattle.std.proofs.Common.{◌≡◌, ℕ, zero, suc, ◌+◌, ◌-◌, ◌*◌, ◌/◌, ◌%◌, ◌^◌, ◌<◌, ◌≤◌, ◌⊎◌, Bool}
use Rattle.std.proofs.Common.{true, false, nat_lt, lt-ltb, if◌then◌else◌, Option, Some, None, List}
use Rattle.std.proofs.Common.{[], ◌∷◌, ◌++◌, get_or, sym, refl, ap, ◌∙◌, subst, inl, inr, arith}
use Rattle.std.proofs.lemmas.Bool.{cases_lt}
use Rattle.std.proofs.lemmas.Bool.Decides.{nat_tests}
use Rattle.ol_net.specs.Parts.{arity}
use Rattle.ol_rules.specs.Listed.{each}
use Rattle.ol_rules.specs.Rewriting.{is_meeting, index_after}
use Rattle.ol_rules.proofs.Alike.{meeting_alike}
use Rattle.ol_wire.specs.declared.layout.Parts.{Parts}
use Rattle.ol_wire.specs.declared.begun.Begun.{Begun}
use Rattle.ol_wire.specs.declared.view.Link.{Link}
use Rattle.ol_wire.specs.declared.view.View.{View}
use Rattle.ol_wire.specs.References.{kind_in, index_in, node_ref, IsNodeRef}
use Rattle.ol_net.specs.declared.parts.Kind.{Kind}
use Rattle.ol_rules.specs.declared.journal.NodeName.TheVariants.{Born}
use Rattle.ol_wire.specs.Layout.{block, born_cell, place_of, start_cell}
use Rattle.ol_wire.specs.Blocks.{copies_of_f}
use Rattle.ol_wire.specs.LinkLists.{born_ref, joins_in, link_of}
use Rattle.ol_wire.specs.Plays.{cell_at}
use Rattle.ol_wire.specs.StepPlays.{IsRefOf, linked, moved, publishing, repaid, rest}
use Rattle.ol_wire.specs.Rewrites.{event_for}
use Rattle.ol_wire.specs.Links.{link_between, IsEndOf, IsNext, AreNext, IsLinked, cell_published, active_published}
use Rattle.ol_wire.specs.Credit.{active_in}
use Rattle.ol_wire.specs.Turns.{masked}
use Rattle.ol_wire.specs.TurnParts.{IsBegun, AreLinked}
use Rattle.ol_wire.proofs.Ticket.Refs.{joins_few}
use Rattle.std.proofs.lemmas.List.{append-nil, append_assoc}

-- One link, in the midst of its exchanges: it goes from a to b now.
pub record IsLinking (z : Parts) (v : View) (w a b : ℕ) (n : View) : Type 0 where
  pub due : v.due ≡ []
  pub ends : IsEndOf z a × IsEndOf z b
  pub dead : (ws : List ℕ) × (n.dead ≡ v.dead ++ ws)
  pub view : n ≡ record v { pending = link_between w a b ∷ rest v.pending; dead = n.dead }

pub end_of_ref : (z : Parts) (r : ℕ) → IsRefOf z r → IsEndOf z r
end_of_ref z r (inl node) = inl node.0
end_of_ref z r (inr wire) = inr (wire.0, wire.2)

pub linking_begins : (z : Parts) (v : View) (w a b : ℕ) → IsNext v w a b → IsEndOf z a →
    IsEndOf z b → IsLinking z v w a b v
linking_begins z v w a b next of_a of_b = record {
  due = next.0;
  ends = (of_a, of_b);
  dead = ([], sym (append-nil v.dead));
  view = ap (λ (ls : List Link). record v { pending = ls }) next.1;
}

module _ (z : Parts) (v : View) (w a b : ℕ) (n : View) (h : IsLinking z v w a b n) where
  pub next_now : IsNext n w a b
  next_now = (
    ap (λ (u : View). u.due) h.view ∙ h.due,
    ap (λ (u : View). u.pending) h.view
        ∙ ap (λ (ls : List Link). link_between w a b ∷ ls) (sym (ap (λ (u : View). rest u.pending) h.view)),
  )

  -- an end that is no node, and the other end
  module _ (wire other : ℕ) (open_one : IsNodeRef wire → ⊥)
      (turn : ((wire ≡ a) × (other ≡ b)) ⊎ ((wire ≡ b) × (other ≡ a))) where
    pub open_next : AreNext n wire other
    open_next = record { due = next_now.0; link = link_between w a b; pending = next_now.1; between = of turn }
      where
        of : ((wire ≡ a) × (other ≡ b)) ⊎ ((wire ≡ b) × (other ≡ a)) →
            ((a ≡ wire) × (b ≡ other)) ⊎ ((a ≡ other) × (b ≡ wire))
        of (inl t) = inl (sym t.0, sym t.1)
        of (inr t) = inr (sym t.1, sym t.0)

  pub linking_goes_on : (m : View) (u other c : ℕ) → m ≡ moved n u other c → IsRefOf z other →
      IsRefOf z c → IsLinking z v w other c m
  linking_goes_on m u other c e of_other of_c = record {
    due = h.due;
    ends = (end_of_ref z other of_other, end_of_ref z c of_c);
    dead = (
      h.dead.0 ++ u ∷ [],
      ap (λ (x : View). x.dead) e ∙ ap (λ ws. ws ++ u ∷ []) h.dead.1
          ∙ append_assoc v.dead h.dead.0 (u ∷ []),
    );
    view = whole ∙ ap (λ (ds : List ℕ). record v
        { pending = link_between w other c ∷ rest v.pending; dead = ds }) (sym (ap (λ (x : View). x.dead) e));
  }
    where
      whole : m ≡ record v { pending = link_between w other c ∷ rest v.pending; dead = n.dead ++ u ∷ [] }
      whole = e ∙ ap (λ (x : View). moved x u other c) h.view

-- its pair is published, or a word that was empty has taken an end
pub link_published : (z : Parts) (v : View) (w a b : ℕ) (t n : View) (x : ℕ) →
    IsLinking z v w a b t → n ≡ publishing t w → x ≡ active_in a b → IsLinked v w (Some x) n
link_published z v w a b t n x h e is = record {
  dead = (h.dead.0, ap (λ (u : View). u.dead) e ∙ h.dead.1);
  view = whole ∙ ap (λ (q : List (ℕ × ℕ)). shape q t.dead (v.owed - active_in a b))
      (sym (ap (λ (u : View). u.known) e))
      ∙ ap (λ (q : List ℕ). shape n.known q (v.owed - active_in a b))
      (sym (ap (λ (u : View). u.dead) e)) ∙ ap (λ (q : ℕ). shape n.known n.dead (v.owed - q)) (sym is);
}
  where
    shape : List (ℕ × ℕ) → List ℕ → ℕ → View
    shape known dead owed = record v {
      pending = rest v.pending;
      known = known;
      published = v.published ++ cell_at v.parts w ∷ [];
      dead = dead;
      owed = owed;
    }

    whole : n ≡ shape [] t.dead (v.owed - active_in a b)
    whole = e ∙ ap (λ (u : View). publishing u w) h.view

pub link_taken : (z : Parts) (v : View) (w a b : ℕ) (t n : View) → IsLinking z v w a b t →
    n ≡ linked t → IsLinked v w None n
link_taken z v w a b t n h e = record {
  dead = (h.dead.0, ap (λ (u : View). u.dead) e ∙ h.dead.1);
  view = whole ∙ ap (λ (q : List (ℕ × ℕ)). shape q t.dead) (sym (ap (λ (u : View). u.known) whole))
      ∙ ap (λ (q : List ℕ). shape n.known q) (sym (ap (λ (u : View). u.dead) e))
      ∙ ap (λ (q : ℕ). record v {
        pending = rest v.pending;
        known = n.known;
        published = v.published ++ [];
        dead = n.dead;
        owed = q;
      }) nothing;
}
  where
    shape : List (ℕ × ℕ) → List ℕ → View
    shape known dead = record v { pending = rest v.pending; known = known; published = v.published ++ []; dead = dead }

    nothing : v.owed ≡ v.owed - 0
    nothing = omega arith

    whole : n ≡ shape v.known t.dead
    whole = e ∙ ap (λ (u : View). linked u) h.view
        ∙ ap (λ (ps : List ℕ). record v { pending = rest v.pending; published = ps; dead = t.dead })
        (sym (append-nil v.published))

-- the first cells of a mask, and one more
pub masked_more : (first j m : ℕ) → j < 4 → m < 2 ^ j → masked first (m + 2 ^ j) ≡ masked first m ++ (first + j) ∷ []
masked_more first zero zero lt low = refl
masked_more first zero (suc m) lt low = absurd (omega arith)
masked_more first (suc zero) zero lt low = refl
masked_more first (suc zero) (suc zero) lt low = refl
masked_more first (suc zero) (suc (suc m)) lt low = absurd (omega arith)
masked_more first (suc (suc zero)) zero lt low = refl
masked_more first (suc (suc zero)) (suc zero) lt low = refl
masked_more first (suc (suc zero)) (suc (suc zero)) lt low = refl
masked_more first (suc (suc zero)) (suc (suc (suc zero))) lt low = refl
masked_more first (suc (suc zero)) (suc (suc (suc (suc m)))) lt low = absurd (omega arith)
masked_more first (suc (suc (suc zero))) zero lt low = refl
masked_more first (suc (suc (suc zero))) (suc zero) lt low = refl
masked_more first (suc (suc (suc zero))) (suc (suc zero)) lt low = refl
masked_more first (suc (suc (suc zero))) (suc (suc (suc zero))) lt low = refl
masked_more first (suc (suc (suc zero))) (suc (suc (suc (suc zero)))) lt low = refl
masked_more first (suc (suc (suc zero))) (suc (suc (suc (suc (suc zero))))) lt low = refl
masked_more first (suc (suc (suc zero))) (suc (suc (suc (suc (suc (suc zero)))))) lt low = refl
masked_more first (suc (suc (suc zero))) (suc (suc (suc (suc (suc (suc (suc zero))))))) lt low = refl
masked_more first (suc (suc (suc zero))) (suc (suc (suc (suc (suc (suc (suc (suc m)))))))) lt low = absurd (omega arith)
masked_more first (suc (suc (suc (suc j)))) m lt low = absurd (omega arith)

-- n links, from number j on
abbrev pub links_from : ℕ → ℕ → (ℕ → Link) → List Link
links_from zero j f = []
links_from (suc n) j f = f j ∷ links_from n (suc j) f

one_at_the_end : (n j : ℕ) (f : ℕ → Link) → links_from (suc n) j f ≡ links_from n j f ++ f (j + n) ∷ []
one_at_the_end zero j f = ap (λ i. f i ∷ []) (omega arith)
one_at_the_end (suc n) j f = ap (λ ls. f j ∷ ls)
    (one_at_the_end n (suc j) f ∙ ap (λ i. links_from n (suc j) f ++ f i ∷ []) (omega arith))

pub links_listed : (n : ℕ) (f : ℕ → Link) → each n (λ j. f j ∷ []) ≡ links_from n 0 f
links_listed zero f = refl
links_listed (suc n) f = ap (λ ls. ls ++ f n ∷ []) (links_listed n f)
    ∙ ap (λ i. links_from n 0 f ++ f i ∷ []) last ∙ sym (one_at_the_end n 0 f)
  where
    last : n ≡ 0 + n
    last = omega arith

pub one_link_off : (n j : ℕ) (f : ℕ → Link) → j < n → links_from (n - j) j f ≡ f j ∷ links_from (n - suc j) (suc j) f
one_link_off n j f lt = let e : n - j ≡ suc (n - suc j) = omega (arith, lt) in ap (λ k. links_from k j f) e

-- the links of a rewrite, by number
abbrev pub link_in : Parts → Begun → ℕ → Link
link_in z b j = link_of z (event_for b.rewrite) b.ticket (λ s. get_or b.of_f s 0) (λ s. get_or b.of_g s 0) j

-- The links of a rewrite in the midst of their making: those from join j on are pending, and o is what is owed.
pub record AreLinking (z : Parts) (v : View) (b : Begun) (j m o : ℕ) (n : View) : Type 0 where
  pub mask : m < 2 ^ j
  pub owed : n.owed ≡ o
  -- each link has paid one at most
  pub most : suc (joins_in (event_for b.rewrite)) ≤ o + j
  pub dead : (ws : List ℕ) × (n.dead ≡ v.dead ++ ws)
  pub view : n ≡ record v {
    pending = links_from (joins_in (event_for b.rewrite) - j) j
        (link_in z b);
    known = n.known;
    published = v.published ++ masked (z.cells + 4 * b.ticket) m;
    dead = n.dead;
    owed = n.owed;
  }

pub cell_of_born : (z : Parts) (t j : ℕ) → j < 4 → cell_at z (born_cell z t j) ≡ z.cells + 4 * t + j
cell_of_born z t j few =
    let w : ℕ = born_cell z t j in
    let x : nat_lt w (block z 0) ≡ false = grind (arith, nat_tests) in
    let y : z.cells + 4 * ((w - block z 0) / 22) +
    ((w - block z 0) % 22 - 14) / 2 ≡ z.cells + 4 * t + j = omega (arith, few) in
    ap (λ b. if b then (w - start_cell z 0) / 2 else z.cells + 4 * ((w - block z 0) / 22) +
    ((w - block z 0) % 22 - 14) / 2) x ∙ y

module _ (z : Parts) (v : View) (b : Begun) (begun : IsBegun z v b) where
  abbrev joins : ℕ
  joins = joins_in (event_for b.rewrite)

  abbrev first_cell : ℕ
  first_cell = z.cells + 4 * b.ticket

  pub all_begin : (o : ℕ) → o ≡ joins + 1 → AreLinking z v b 0 0 o v
  all_begin o is = record {
    mask = omega arith;
    owed = omega (arith, begun.owed, is);
    most = omega (arith, is);
    dead = ([], sym (append-nil v.dead));
    view = ap (λ (ls : List Link). record v { pending = ls }) pending
        ∙ ap (λ (ps : List ℕ). record v {
          pending = links_from (joins - 0) 0 (link_in z b);
          published = ps;
        }) (sym (append-nil v.published));
  }
    where
      all : joins ≡ joins - 0
      all = omega arith

      pending : v.pending ≡ links_from (joins - 0) 0 (link_in z b)
      pending = begun.pending ∙ links_listed joins (link_in z b) ∙ ap (λ k. links_from k 0 (link_in z b)) all

  born_is_end : (i : ℕ) → IsEndOf z (born_ref z (event_for b.rewrite) b.ticket i)
  born_is_end i = inl (of (nat_lt i (copies_of_f (event_for b.rewrite))) (kind_in b.rewrite.f)
      (kind_in b.rewrite.g) (index_in b.rewrite.f)
      (index_after b.rewrite.rule (index_in b.rewrite.g)) (place_of z (Born b.ticket i)))
    where
      of : (x : Bool) (k l : Kind) (m n p : ℕ) → IsNodeRef (if x then node_ref k m p else node_ref l n p)
      of true k l m n p = omega arith
      of false k l m n p = omega arith

  -- the ends of each link
  pub ends_of_link : (j : ℕ) → j < joins → IsEndOf z (link_in z b j).one × IsEndOf z (link_in z b j).two
  ends_of_link j lt = go (is_meeting b.rewrite.rule) refl lt
    where
      of_f : (s : ℕ) → s < arity (kind_in b.rewrite.f) → IsEndOf z (get_or b.of_f s 0)
      of_f s few = end_of_ref z (get_or b.of_f s 0) (begun.fields.0 s few)

      of_g : (s : ℕ) → s < arity (kind_in b.rewrite.g) → IsEndOf z (get_or b.of_g s 0)
      of_g s few = end_of_ref z (get_or b.of_g s 0) (begun.fields.1 s few)

      two_of : (c d : ℕ) → j < c + d → c ≡ arity (kind_in b.rewrite.g) →
          d ≡ arity (kind_in b.rewrite.f) → IsEndOf z
          (if nat_lt j c then get_or b.of_g j 0 else get_or b.of_f (j - c) 0)
      two_of c d few p q = elim (cases_lt j c) [
        | inl below ↦ subst (IsEndOf z) (sym
            (ap (λ x. if x then get_or b.of_g j 0 else get_or b.of_f (j - c) 0) (lt-ltb j c below)))
            (of_g j (omega (arith, p, below)))
        | inr above ↦
            let x : nat_lt j c ≡ false = grind (arith, nat_tests) in
            subst (IsEndOf z) (sym (ap (λ y. if y then get_or b.of_g j 0 else get_or b.of_f
            (j - c) 0) x)) (of_f (j - c) (omega (arith, q, few, above)))
      ]

      go : (x : Bool) → is_meeting b.rewrite.rule ≡ x →
          j < (if x then arity (kind_in b.rewrite.f) else
          (if x then 0 else arity (kind_in b.rewrite.g)) + (if x then 0 else arity (kind_in b.rewrite.f)))
          → IsEndOf z (if x then get_or b.of_f j 0 else born_ref z (event_for b.rewrite) b.ticket j)
          × IsEndOf z (if x then get_or b.of_g j 0 else if nat_lt j
          (if x then 0 else arity (kind_in b.rewrite.g)) then get_or b.of_g j 0 else get_or
          b.of_f (j - (if x then 0 else arity (kind_in b.rewrite.g))) 0)
      go true q few = (
        of_f j few,
        of_g j (omega (
          arith,
          few,
          meeting_alike (kind_in b.rewrite.f) (index_in b.rewrite.f)
              (kind_in b.rewrite.g) (index_in b.rewrite.g) b.rewrite.rule begun.rule q,
        )),
      )
      go false q few = (born_is_end j, two_of (arity (kind_in b.rewrite.g)) (arity (kind_in b.rewrite.f)) few refl refl)

  module _ (j m o : ℕ) (n : View) (h : AreLinking z v b j m o n) (lt : j < joins) where
    pending_now : n.pending ≡ link_in z b j ∷ links_from (joins - suc j) (suc j) (link_in z b)
    pending_now = ap (λ (u : View). u.pending) h.view ∙ one_link_off joins j (link_in z b) lt

    -- the ends that the code has
    module _ (w one two : ℕ) (is : link_between w one two ≡ link_in z b j) where
      pub link_is_next : IsNext n w one two
      link_is_next = (
        ap (λ (u : View). u.due) h.view ∙ begun.due,
        subst (λ (l : Link). n.pending ≡ l ∷ rest n.pending) (sym is)
            (pending_now ∙ ap (λ (ls : List Link). link_in z b j ∷ rest ls) (sym pending_now)),
      )

      pub both_ends : IsEndOf z one × IsEndOf z two
      both_ends = let e = ends_of_link j lt in (
        subst (IsEndOf z) (sym (ap (λ (l : Link). l.one) is)) e.0,
        subst (IsEndOf z) (sym (ap (λ (l : Link). l.two) is)) e.1,
      )

    module _ (parts : v.parts ≡ z) (k : View) where
      abbrev shape : List Link → List ℕ → View
      shape ls ps = record v { pending = ls; known = k.known; published = ps; dead = k.dead; owed = k.owed }

      linked_owed : (p : Option ℕ) → IsLinked n (born_cell z b.ticket j) p k → k.owed ≡ n.owed - active_published p
      linked_owed p made = ap (λ (u : View). u.owed) made.view

      linked_dead : (p : Option ℕ) → IsLinked n (born_cell z b.ticket j) p k → (ws : List ℕ) × (k.dead ≡ v.dead ++ ws)
      linked_dead p made = (
        h.dead.0 ++ made.dead.0,
        made.dead.1
            ∙ ap (λ ws. ws ++ made.dead.0) h.dead.1 ∙ append_assoc v.dead h.dead.0 made.dead.0,
      )

      linked_view : (p : Option ℕ) → IsLinked n (born_cell z b.ticket j) p k →
          k ≡ shape (links_from (joins - suc j) (suc j) (link_in z b))
          ((v.published ++ masked first_cell m) ++ cell_published v.parts (born_cell z b.ticket j) p)
      linked_view p made =
          made.view ∙ ap (λ (q : ℕ). record n {
            pending = rest n.pending;
            known = k.known;
            published = n.published ++ cell_published n.parts (born_cell z b.ticket j) p;
            dead = k.dead;
            owed = q;
          }) (sym (linked_owed p made))
          ∙ ap (λ (u : View). record u {
            pending = rest u.pending;
            known = k.known;
            published = u.published ++ cell_published u.parts (born_cell z b.ticket j) p;
            dead = k.dead;
            owed = k.owed;
          }) h.view
          ∙ ap (λ (ls : List Link). shape (rest ls)
          ((v.published ++ masked first_cell m) ++ cell_published v.parts
          (born_cell z b.ticket j) p)) (one_link_off joins j (link_in z b) lt)

      -- the next link was made, and its pair was published
      pub one_published : (a : ℕ) → a ≤ 1 → IsLinked n (born_cell z b.ticket j) (Some a) k →
          AreLinking z v b (suc j) (m + 2 ^ j) (o - a) k
      one_published a small made = record {
        mask = low;
        owed = linked_owed (Some a) made
            ∙ ap (λ q. q - a) h.owed;
        most = omega (arith, h.most, small, lt);
        dead = linked_dead (Some a) made;
        view = linked_view (Some a) made
            ∙ ap (shape (links_from (joins - suc j) (suc j) (link_in z b))) published;
      }
        where
          few : j < 4
          few = omega (arith, lt, joins_few (event_for b.rewrite))

          low : m + 2 ^ j < 2 ^ suc j
          low = omega (arith, h.mask)

          cell : cell_at v.parts (born_cell z b.ticket j) ≡ first_cell + j
          cell = ap (λ (y : Parts). cell_at y (born_cell z b.ticket j)) parts ∙ cell_of_born z b.ticket j few

          published : (v.published ++ masked first_cell m) ++ cell_at v.parts
              (born_cell z b.ticket j) ∷ [] ≡ v.published ++ masked first_cell (m + 2 ^ j)
          published = ap (λ (i : ℕ). (v.published ++ masked first_cell m) ++ i ∷ []) cell
              ∙ append_assoc v.published (masked first_cell m) ((first_cell + j) ∷ [])
              ∙ ap (λ ps. v.published ++ ps) (sym (masked_more first_cell j m few h.mask))

      -- it was made by a word that had been empty
      pub none_published : IsLinked n (born_cell z b.ticket j) None k → AreLinking z v b (suc j) m o k
      none_published made = record {
        mask = omega (arith, h.mask);
        owed = omega (arith, linked_owed None made, h.owed);
        most = omega (arith, h.most);
        dead = linked_dead None made;
        view = linked_view None made
            ∙ ap (shape (links_from (joins - suc j) (suc j) (link_in z b)))
            (append-nil (v.published ++ masked first_cell m));
      }

      -- either way
      next : suc j ≡ j + 1
      next = omega arith

      pub more_published : (a w mask left : ℕ) → w ≡ born_cell z b.ticket j → a ≤ 1 →
          IsLinked n w (Some a) k → mask ≡ m + 2 ^ j → left ≡ o - a → AreLinking z v b (j + 1) mask left k
      more_published a w mask left cell small made with_bit paid =
          subst (λ (i : ℕ). AreLinking z v b i mask left k) next
          (subst (λ (i : ℕ). AreLinking z v b (suc j) i left k) (sym with_bit)
          (subst (λ (i : ℕ). AreLinking z v b (suc j) (m + 2 ^ j) i k) (sym paid)
          (one_published a small (subst (λ (u : ℕ). IsLinked n u (Some a) k) cell made))))

      pub more_made : (w mask left : ℕ) → w ≡ born_cell z b.ticket j → IsLinked n w None k →
          mask ≡ m → left ≡ o → AreLinking z v b (j + 1) mask left k
      more_made w mask left cell made same paid =
          subst (λ (i : ℕ). AreLinking z v b i mask left k) next
          (subst (λ (i : ℕ). AreLinking z v b (suc j) i left k) (sym same)
          (subst (λ (i : ℕ). AreLinking z v b (suc j) m i k) (sym paid)
          (none_published (subst (λ (u : ℕ). IsLinked n u None k) cell made))))

  pub none_left : (m o : ℕ) (n : View) → AreLinking z v b joins m o n → n.pending ≡ []
  none_left m o n h =
      let none : joins - joins ≡ 0 = omega arith in
      ap (λ (u : View). u.pending) h.view ∙ ap (λ (k : ℕ). links_from k joins (link_in z b)) none

  -- none is pending any more
  pub all_linked : (m o : ℕ) (n k : View) → AreLinking z v b joins m o n → k ≡ repaid n o → AreLinked z v b m k
  all_linked m o n k h repays = record {
    mask = low joins (joins_few (event_for b.rewrite)) h.mask;
    joins = h.mask;
    dead = (h.dead.0, ap (λ (u : View). u.dead) repays ∙ h.dead.1);
    view = whole ∙ ap (λ (q : List (ℕ × ℕ)).
        record v {
          pending = [];
          known = q;
          published = v.published ++ masked first_cell m;
          dead = n.dead;
          owed = 0;
        }) (sym (ap (λ (u : View). u.known) repays))
        ∙ ap (λ (q : List ℕ). record v {
          pending = [];
          known = k.known;
          published = v.published ++ masked first_cell m;
          dead = q;
          owed = 0;
        })
        (sym (ap (λ (u : View). u.dead) repays));
  }
    where
      no_more : joins - joins ≡ 0
      no_more = omega arith

      nothing : n.owed - o ≡ 0
      nothing = omega (arith, h.owed)

      whole : k ≡ record v {
        pending = [];
        known = n.known;
        published = v.published ++ masked first_cell m;
        dead = n.dead;
        owed = 0;
      }
      whole =
          repays ∙ ap (λ (q : ℕ). record n { owed = q }) nothing ∙ ap (λ (u : View). record u { owed = 0 }) h.view
          ∙ ap (λ (i : ℕ). record v {
            pending = links_from i joins (link_in z b);
            known = n.known;
            published = v.published ++ masked first_cell m;
            dead = n.dead;
            owed = 0;
          }) no_more

      low : (k : ℕ) → k ≤ 4 → m < 2 ^ k → m < 16
      low zero le lt = omega (arith, lt)
      low (suc zero) le lt = omega (arith, lt)
      low (suc (suc zero)) le lt = omega (arith, lt)
      low (suc (suc (suc zero))) le lt = omega (arith, lt)
      low (suc (suc (suc (suc zero)))) le lt = omega (arith, lt)
      low (suc (suc (suc (suc (suc k))))) le lt = absurd (omega (arith, le))
