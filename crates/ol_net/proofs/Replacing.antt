-- The tables after a replacement are those of a net
use Rattle.std.proofs.Common.{◌≡◌, ◌≢◌, ℕ, ◌+◌, ◌-◌, ◌*◌, ◌/◌, ◌%◌, ◌<◌, ◌≤◌, ◌==◌, nat_lt, nat_le}
use Rattle.std.proofs.Common.{Bool, true, false, ◌&&◌, not, cond, if◌then◌else◌, List, [], ◌∷◌}
use Rattle.std.proofs.Common.{◌++◌, length, map, set, get_or, Option, Some, None, refl, sym, ap}
use Rattle.std.proofs.Common.{◌∙◌, inl, inr, arith, subst, add-zero, is_some, count_by, sum_by}
use Rattle.std.proofs.lemmas.Bool.{cases_eq, cases_lt, cases_Bool, false≢true}
use Rattle.std.proofs.lemmas.Bool.Decides.{nat_tests}
use Rattle.std.proofs.lemmas.List.{map-append, length-set, length-append, get_or-set_same, get_or-set_other}
use Rattle.std.proofs.lemmas.List.{get_or_append_left, get_or-append_right, get_or_past}
use Rattle.ol_net.specs.declared.parts.Kind.{Kind}
use Rattle.ol_net.specs.declared.parts.JoinEnd.{JoinEnd}
use Rattle.ol_net.specs.declared.parts.JoinEnd.TheVariants.{First, Second}
use Rattle.ol_net.specs.Pairing.{IsPaired, other}
use Rattle.ol_net.specs.Graph.{Graph, kind_at, has_slot, has_port, port_at, place, IsTabled}
use Rattle.ol_net.specs.Numbered.{all_live}
use Rattle.ol_net.specs.Joins.{uses_up, side_ends, born_ends, open_ends}
use Rattle.ol_net.specs.Rewired.{joined, end_place, join_places, Within, AllTwo, grown, rewired, renewed, Given}
use Rattle.ol_net.specs.declared.parts.NodeId.{NodeId}
use Rattle.ol_net.specs.declared.parts.Port.{Port}
use Rattle.ol_net.specs.declared.parts.Port.TheVariants.{Of}
use Rattle.std.proofs.lemmas.List.Sums.{sum_by-set, sum_by-append}
use Rattle.ol_net.specs.Replace.{AreFacing}
use Rattle.ol_net.proofs.Places.{kind_at-within, place-port_at}
use Rattle.ol_net.proofs.Joining.{length-grown, other-grown, IsPaired-grown, length-joined}
use Rattle.ol_net.proofs.Joining.{JoinStep-joined, IsPaired-joined}
use Rattle.ol_net.proofs.Linking.{length-all_live, count_by-all_live}
use Rattle.ol_net.proofs.Fitting.{bit, vertices, count, count-append, count-uses_up, Within-from_count}
use Rattle.ol_net.proofs.Fitting.{AllTwo-from_count, alone-joined_all, IsPaired-joined_all, length-joined_all, IsSlot}
use Rattle.ol_net.proofs.Fitting.{count-side_at, count-side_low, count-born_low, count-born_at}

-- all edges that are added, the one of the principal ports with them
abbrev pub all_joins : ℕ → ℕ → ℕ → List (ℕ × ℕ) → List (ℕ × ℕ)
all_joins free first second joined = (free + 3 * first, free + 3 * second) ∷ joined

-- how often a place is joined: by its parts
pub count-open : (free : ℕ) (nodes : List (Option (Kind × ℕ))) (xs : List ℕ)
    (first second next k : ℕ) (born : List (Kind × ℕ)) (joins : List (JoinEnd × JoinEnd)) →
    Given free nodes xs first second born joins →
    count k (vertices (join_places free first second next joins)) ≡ count k
    (map (end_place free first second next) (side_ends First (kind_at nodes first)))
    + count k (map (end_place free first second next)
    (side_ends Second (kind_at nodes second))) + count k (map (end_place free first second next) (born_ends 0 born))
count-open free nodes xs first second next k born joins g =
    let P = end_place free first second next in
    let A = side_ends First (kind_at nodes first) in
    let B = side_ends Second (kind_at nodes second) in
    let C = born_ends 0 born in
    let e = count-uses_up free first second next k joins (A ++ B ++ C) g.fit in
    let m = ap (count k) (map-append P (A ++ B) C) ∙ count-append k (map P (A ++ B)) (map P C) in
    let n = ap (count k) (map-append P A B) ∙ count-append k (map P A) (map P B) in
    omega (arith, e, m, n)

pub count-low : (free : ℕ) (nodes : List (Option (Kind × ℕ))) (xs : List ℕ)
    (first second next k : ℕ) (born : List (Kind × ℕ)) (joins : List (JoinEnd × JoinEnd)) →
    Given free nodes xs first second born joins → k < free →
    count k (vertices (all_joins free first second (join_places free first second next joins))) ≡ 0
count-low free nodes xs first second next k born joins g lt =
    let P = end_place free first second next in
    let c = count-open free nodes xs first second next k born joins g in
    let a = count-side_low P First (kind_at nodes first) free first k (λ t. refl) lt in
    let b = count-side_low P Second (kind_at nodes second) free second k (λ t. refl) lt in
    let d = count-born_low P free next 0 k born (λ q t. refl) (omega arith) in
    let na : (free + 3 * first == k) ≡ false = grind (arith, nat_tests) in
    let nb : (free + 3 * second == k) ≡ false = grind (arith, nat_tests) in
    rw (na, nb) (omega (arith, c, a, b, d))

-- the part of the nodes that come
pub count-born : (free first second next n s k : ℕ) (born : List (Kind × ℕ)) → IsSlot free n s k →
    count k (map (end_place free first second next) (born_ends 0 born)) ≡ bit
    (nat_le next n && has_slot (kind_at (all_live born) (n - next)) s)
count-born free first second next n s k born at = elim (cases_lt n next) [
  | inl lt ↦
      let t : nat_le next n ≡ false = grind (arith, nat_tests) in
      count-born_low (end_place free first second next) free next 0 k born (λ q t. refl)
      (omega (arith, at.at, at.small)) ∙ rw t refl
  | inr le ↦
      let t : nat_le next n ≡ true = grind (arith, nat_tests) in
      let at' : IsSlot free (next + 0 + (n - next)) s k = record { at = omega (arith, at.at); small = at.small } in
      count-born_at (end_place free first second next) free next 0 (n - next) s k born (λ q t. refl) at' ∙ rw t refl
]

pub count-at : (free : ℕ) (nodes : List (Option (Kind × ℕ))) (xs : List ℕ)
    (first second next n s k : ℕ) (born : List (Kind × ℕ)) (joins : List (JoinEnd × JoinEnd)) →
    Given free nodes xs first second born joins → IsSlot free n s k →
    count k (vertices (all_joins free first second
    (join_places free first second next joins))) ≡ bit
    ((n == first) && has_slot (kind_at nodes first) s) + bit ((n == second) && has_slot (kind_at nodes second) s)
    + bit (nat_le next n && has_slot (kind_at (all_live born) (n - next)) s)
count-at free nodes xs first second next n s k born joins g at =
    let P = end_place free first second next in
    let c = count-open free nodes xs first second next k born joins g in
    let a = count-side_at P First (kind_at nodes first) free first n s k (λ t. refl) g.facing.first_live at in
    let b = count-side_at P Second (kind_at nodes second) free second n s k (λ t. refl) g.facing.second_live at in
    let d = count-born free first second next n s k born at in
    omega (arith, a, b, c, d)

-- the nodes after a replacement
pub kind_at-renewed : (nodes : List (Option (Kind × ℕ))) (first second n : ℕ)
    (born : List (Kind × ℕ)) → first < length nodes → second < length nodes →
    kind_at (renewed nodes first second born) n ≡
    (if (n == first) then None else (if (n == second) then None else
    (if nat_lt n (length nodes) then kind_at nodes n else kind_at (all_live born) (n - length nodes))))
kind_at-renewed nodes first second n born lf ls =
    let all = nodes ++ all_live born in
    let len = length-append nodes (all_live born) in
    let one = set all first None in
    elim (cases_eq n second) [
      | inl ns ↦
          let t : (n == second) ≡ true = grind (arith, nat_tests) in
          let e : kind_at (renewed nodes first second born) n ≡ None = rw ns
          (get_or-set_same one second None None (rw length-set (omega (arith, len)))) in
          e ∙ (elim (cases_Bool (n == first)) [ inl u ↦ rw u refl | inr u ↦ rw (u, t) refl ])
      | inr ns ↦
          let t : (n == second) ≡ false = grind (arith, nat_tests) in
          let e1 = get_or-set_other one second n None None ns in
          elim (cases_eq n first) [
            | inl nf ↦
                let u : (n == first) ≡ true = grind (arith, nat_tests) in
                let e2 : get_or one n None ≡ None = rw nf (get_or-set_same all first None None (omega (arith, len))) in
                e1 ∙ e2 ∙ rw u refl
            | inr nf ↦
                let u : (n == first) ≡ false = grind (arith, nat_tests) in
                let e2 = get_or-set_other all first n None None nf in
                elim (cases_lt n (length nodes)) [
                  | inl lt ↦
                      let v : nat_lt n (length nodes) ≡ true = grind (arith, nat_tests) in
                      e1 ∙ e2 ∙ get_or_append_left nodes (all_live born) None n lt ∙ rw (u, t, v) refl
                  | inr le ↦
                      let v : nat_lt n (length nodes) ≡ false = grind (arith, nat_tests) in
                      e1 ∙ e2 ∙ get_or-append_right nodes (all_live born)
                      (length nodes) n None refl le ∙ rw (u, t, v) refl
                ]
          ]
    ]

pub slot_of : (free k : ℕ) → free ≤ k → IsSlot free ((k - free) / 3) ((k - free) % 3) k
slot_of free k le = record { at = omega arith; small = omega arith }

-- whether there is a port at a place, by node and slot
pub has_port-slot : (free : ℕ) (nodes : List (Option (Kind × ℕ))) (n s k : ℕ) → IsSlot free n s k →
    has_port free nodes (port_at free k) ≡ has_slot (kind_at nodes n) s
has_port-slot free nodes n s k at =
    let past : nat_lt k free ≡ false = let e = at.at in grind (arith, nat_tests) in
    let q : (k - free) / 3 ≡ n = omega (arith, at.at, at.small) in
    let r : (k - free) % 3 ≡ s = omega (arith, at.at, at.small) in
    rw past (rw (q, r) refl)

has_port-low : (free : ℕ) (nodes : List (Option (Kind × ℕ))) (k : ℕ) → k < free →
    has_port free nodes (port_at free k) ≡ true
has_port-low free nodes k lt = let t : nat_lt k free ≡ true = grind (arith, nat_tests) in rw t t

-- a place is joined once or not at all, and just where there is a port before or after, and not both
pub record JoinedOnce (c : ℕ) (before after : Bool) (inside : Type 0) : Type 0 where
  pub once : c ≤ 1
  pub within : 1 ≤ c → inside
  pub toggles : (if c == 0 then not before else not (not before)) ≡ not after

both_ways : (h : Bool) (c : ℕ) (inside : Type 0) → c ≡ bit h → (h ≡ true → inside) → JoinedOnce c h false inside
both_ways true c inside e f = record { once = omega arith; within = λ _. f refl; toggles = rw e refl }
both_ways false c inside e f = record { once = omega arith; within = λ h. absurd (omega arith); toggles = rw e refl }

comes : (h : Bool) (c : ℕ) (inside : Type 0) → c ≡ bit h → (h ≡ true → inside) → JoinedOnce c false h inside
comes true c inside e f = record { once = omega arith; within = λ _. f refl; toggles = rw e refl }
comes false c inside e f = record { once = omega arith; within = λ h. absurd (omega arith); toggles = rw e refl }

stays : (h : Bool) (c : ℕ) (inside : Type 0) → c ≡ 0 → JoinedOnce c h h inside
stays h c inside e = record { once = omega arith; within = λ h. absurd (omega arith); toggles = rw e refl }

-- a node is live only if its number was given out
pub live-within : (nodes : List (Option (Kind × ℕ))) (n : ℕ) → has_slot (kind_at nodes n) 0 ≡ true → n < length nodes
live-within nodes n h = kind_at-within nodes n 0 h

joined_once-slot : (free : ℕ) (nodes : List (Option (Kind × ℕ))) (xs : List ℕ)
    (first second n s k : ℕ) (born : List (Kind × ℕ)) (joins : List (JoinEnd × JoinEnd)) →
    Given free nodes xs first second born joins → IsSlot free n s k →
    JoinedOnce (count k (vertices (all_joins free first second
    (join_places free first second (length nodes) joins)))) (has_slot (kind_at nodes n) s)
    (has_slot (kind_at (renewed nodes first second born) n) s) (k < free + 3 * (length nodes + length born))
joined_once-slot free nodes xs first second n s k born joins g at =
    let next = length nodes in
    let lf = live-within nodes first g.facing.first_live in
    let ls = live-within nodes second g.facing.second_live in
    let c = count-at free nodes xs first second next n s k born joins g at in
    let new = ap (λ o. has_slot o s) (kind_at-renewed nodes first second n born lf ls) in
    let C = count k (vertices (all_joins free first second (join_places free first second next joins))) in
    let In = k < free + 3 * (next + length born) in
    let two = g.facing.two in
    elim (cases_eq n first) [
      | inl nf ↦
          let u : (n == first) ≡ true = grind (arith, nat_tests) in
          let v : (n == second) ≡ false = grind (arith, nat_tests) in
          let w : nat_le next n ≡ false = grind (arith, nat_tests) in
          let c' : C ≡ bit (has_slot (kind_at nodes n) s) = rw (u, v, w) at c ∙ (rw nf (omega arith)) in
          let new' : has_slot (kind_at (renewed nodes first second born) n) s ≡ false = rw u at new in
          rw new' (both_ways (has_slot (kind_at nodes n) s) C In c' (λ h. omega (arith, at.at, at.small)))
      | inr nf ↦ elim (cases_eq n second) [
        | inl ns ↦
            let u : (n == first) ≡ false = grind (arith, nat_tests) in
            let v : (n == second) ≡ true = grind (arith, nat_tests) in
            let w : nat_le next n ≡ false = grind (arith, nat_tests) in
            let c' : C ≡ bit (has_slot (kind_at nodes n) s) = rw (u, v, w) at c ∙ (rw ns (omega arith)) in
            let new' : has_slot (kind_at (renewed nodes first second born) n) s ≡ false = rw (u, v) at new in
            rw new' (both_ways (has_slot (kind_at nodes n) s) C In c' (λ h. omega (arith, at.at, at.small)))
        | inr ns ↦
            let u : (n == first) ≡ false = grind (arith, nat_tests) in
            let v : (n == second) ≡ false = grind (arith, nat_tests) in
            elim (cases_lt n next) [
              | inl lt ↦
                  let w : nat_le next n ≡ false = grind (arith, nat_tests) in
                  let x : nat_lt n next ≡ true = grind (arith, nat_tests) in
                  let c' : C ≡ 0 = rw (u, v, w) at c in
                  let new' : has_slot (kind_at (renewed nodes first second born) n) s ≡ has_slot
                  (kind_at nodes n) s = rw (u, v, x) at new in
                  rw new' (stays (has_slot (kind_at nodes n) s) C In c')
              | inr le ↦
                  let w : nat_le next n ≡ true = grind (arith, nat_tests) in
                  let x : nat_lt n next ≡ false = grind (arith, nat_tests) in
                  let h = has_slot (kind_at (all_live born) (n - next)) s in
                  let c' : C ≡ bit h = rw (u, v, w) at c ∙ omega arith in
                  let new' : has_slot (kind_at (renewed nodes first second born) n) s ≡ h = rw (u, v, x) at new in
                  let old : has_slot (kind_at nodes n) s ≡ false = ap (λ o. has_slot o s)
                  (get_or_past nodes n None le) in
                  rw (old, new') (comes h C In c' (λ t.
                  omega (
                    arith,
                    at.at,
                    at.small,
                    kind_at-within (all_live born) (n - next) s t,
                    length-all_live born,
                  )))
            ]
      ]
    ]

pub joined_once : (free : ℕ) (nodes : List (Option (Kind × ℕ))) (xs : List ℕ) (first second k : ℕ)
    (born : List (Kind × ℕ)) (joins : List (JoinEnd × JoinEnd)) →
    Given free nodes xs first second born joins →
    JoinedOnce (count k (vertices (all_joins free first second
    (join_places free first second (length nodes) joins))))
    (has_port free nodes (port_at free k))
    (has_port free (renewed nodes first second born) (port_at free k)) (k < free + 3 * (length nodes + length born))
joined_once free nodes xs first second k born joins g = elim (cases_lt k free) [
  | inl lt ↦
      let c = count-low free nodes xs first second (length nodes) k born joins g lt in
      rw (has_port-low free nodes k lt, has_port-low free (renewed nodes first second born) k lt)
      (stays true (count k (vertices (all_joins free first second
      (join_places free first second (length nodes) joins)))) (k < free + 3 * (length nodes + length born)) c)
  | inr le ↦
      let n = (k - free) / 3 in
      let s = (k - free) % 3 in
      let at = slot_of free k le in
      rw (has_port-slot free nodes n s k at, has_port-slot free (renewed nodes first second born) n s k at)
      (joined_once-slot free nodes xs first second n s k born joins g at)
]

-- the edges of a replacement lie within the table that has grown, and each is of two places
pub joins-fit : (free : ℕ) (nodes : List (Option (Kind × ℕ))) (xs : List ℕ) (first second : ℕ)
    (born : List (Kind × ℕ)) (joins : List (JoinEnd × JoinEnd)) →
    Given free nodes xs first second born joins →
    Within (length (grown xs (3 * length born)))
    (all_joins free first second (join_places free first second (length nodes) joins))
    × AllTwo (all_joins free first second (join_places free first second (length nodes) joins))
joins-fit free nodes xs first second born joins g =
    let len : length (grown xs (3 * length born)) ≡ free + 3 * (length nodes + length born) = omega
    (arith, length-grown xs (3 * length born), g.net.size) in
    let In : ℕ → Type 0 = λ n. Within n (all_joins free first second
    (join_places free first second (length nodes) joins)) in (
      subst In (sym len) (Within-from_count (free + 3 * (length nodes + length born))
          (all_joins free first second (join_places free first second (length nodes) joins))
          (λ k c. (joined_once free nodes xs first second k born joins g).within c)),
      AllTwo-from_count (all_joins free first second
          (join_places free first second (length nodes) joins))
          (λ k. (joined_once free nodes xs first second k born joins g).once),
    )

pub length-renewed : (nodes : List (Option (Kind × ℕ))) (first second : ℕ)
    (born : List (Kind × ℕ)) → length (renewed nodes first second born) ≡ length nodes + length born
length-renewed nodes first second born =
    length-set (set (nodes ++ all_live born) first None) second None
    ∙ length-set (nodes ++ all_live born) first None ∙ length-append nodes (all_live born)
    ∙ ap (λ n. length nodes + n) (length-all_live born)

pub IsTabled-rewired : (free : ℕ) (nodes : List (Option (Kind × ℕ))) (xs : List ℕ)
    (first second : ℕ) (born : List (Kind × ℕ)) (joins : List (JoinEnd × JoinEnd)) →
    Given free nodes xs first second born joins →
    IsTabled free (renewed nodes first second born) (rewired free (length nodes) xs first second born joins)
IsTabled-rewired free nodes xs first second born joins g =
    let ys = grown xs (3 * length born) in
    let es = all_joins free first second (join_places free first second (length nodes) joins) in
    let fit = joins-fit free nodes xs first second born joins g in
    let paired = IsPaired-grown xs (3 * length born) g.net.paired in
    record {
      size = omega (
        arith,
        length-joined_all ys es,
        length-grown xs (3 * length born),
        g.net.size,
        length-renewed nodes first second born,
      );
      paired = IsPaired-joined_all ys es paired fit.0 fit.1;
      ports = λ k.
          let once = joined_once free nodes xs first second k born joins g in
          let t = alone-joined_all ys es k paired fit.0 fit.1 once.once in
          let old = ap (λ q. q == k) (other-grown xs (3 * length born) k) ∙ g.net.ports k in
          t ∙ rw old once.toggles;
    }

-- what the calls that join need of the table ys, which has grown
pub record Ready (ys : List ℕ) (a b : ℕ) (es : List (ℕ × ℕ)) : Type 0 where
  pub first_in : a < length ys
  pub second_in : b < length ys
  pub paired : IsPaired (other ys)
  pub within : Within (length (joined ys a b)) es
  pub two : AllTwo es
  pub paired_after : IsPaired (other (joined ys a b))

pub ready : (free : ℕ) (nodes : List (Option (Kind × ℕ))) (xs : List ℕ) (first second : ℕ)
    (born : List (Kind × ℕ)) (joins : List (JoinEnd × JoinEnd)) →
    Given free nodes xs first second born joins → (ys : List ℕ) → ys ≡ grown xs (3 * length born) →
    (next : ℕ) → next ≡ length nodes →
    Ready ys (free + 3 * first) (free + 3 * second) (join_places free first second next joins)
ready free nodes xs first second born joins g ys is next en =
    let a = free + 3 * first in
    let b = free + 3 * second in
    let es = join_places free first second next joins in
    let Fit : ℕ → Type 0 = λ n. Within (length (grown xs (3 * length born)))
    (all_joins free first second (join_places free first second n joins))
    × AllTwo (all_joins free first second (join_places free first second n joins)) in
    let fit = subst Fit (sym en) (joins-fit free nodes xs first second born joins g) in
    let In : List ℕ → Type 0 = λ zs. Within (length zs) ((a, b) ∷ es) in
    let w : Within (length ys) ((a, b) ∷ es) = subst In (sym is) fit.0 in
    let p : IsPaired (other ys) = let Q : List ℕ → Type 0 = λ zs. IsPaired (other zs) in
    subst Q (sym is) (IsPaired-grown xs (3 * length born) g.net.paired) in
    let Len : ℕ → Type 0 = λ n. Within n es in
    let step = JoinStep-joined ys a b p w.0 w.1 fit.1.0 in
    record {
      first_in = w.0;
      second_in = w.1;
      paired = p;
      within = subst Len (sym (length-joined ys a b)) w.2;
      two = fit.1.1;
      paired_after = IsPaired-joined (other ys) (other (joined ys a b)) a b step;
    }

live-one : (o : Option (Kind × ℕ)) → has_slot o 0 ≡ true → cond {A = ℕ} (is_some o) 1 0 ≡ 1
live-one None h = absurd (false≢true h)
live-one (Some K) h = refl

-- how many nodes are live
pub count-renewed : (nodes : List (Option (Kind × ℕ))) (first second : ℕ) (born : List (Kind × ℕ)) →
    first ≢ second → has_slot (kind_at nodes first) 0 ≡ true → has_slot (kind_at nodes second) 0 ≡ true →
    count_by is_some (renewed nodes first second born) + 2 ≡ count_by is_some nodes + length born
count-renewed nodes first second born two lf ls =
    let f : Option (Kind × ℕ) → ℕ = λ x. cond (is_some x) 1 0 in
    let all = nodes ++ all_live born in
    let one = set all first None in
    let inf = live-within nodes first lf in
    let ins = live-within nodes second ls in
    let len = length-append nodes (all_live born) in
    let e1 : sum_by f one + f (get_or all first None) ≡ sum_by f all + 0 = sum_by-set f all first
    None None (omega (arith, len)) in
    let e2 : sum_by f (set one second None) + f
    (get_or one second None) ≡ sum_by f one + 0 = sum_by-set f one second None None
    (rw length-set (omega (arith, len))) in
    let e3 : sum_by f all ≡ sum_by f nodes + sum_by f (all_live born) = sum_by-append f nodes (all_live born) in
    let e4 : sum_by f (all_live born) ≡ length born = count_by-all_live born in
    let g1 : f (get_or all first None) ≡ 1 = ap f
    (get_or_append_left nodes (all_live born) None first inf) ∙ live-one (kind_at nodes first) lf in
    let g2 : f (get_or one second None) ≡ 1 = ap f
    (get_or-set_other all first second None None (λ e. two (sym e))
    ∙ get_or_append_left nodes (all_live born) None second ins) ∙ live-one (kind_at nodes second) ls in
    let goal : sum_by f (set one second None) + 2 ≡ sum_by f nodes + length born = omega
    (arith, e1, e2, e3, e4, g1, g2) in
    goal

facing-port : (h : Bool) (p q : Port) → (if h then Some p else None) ≡ Some q → h ≡ true
facing-port true p q e = refl
facing-port false p q e = absurd (let n : None ≡ Some q = e in cc)

facing-partner : (h : Bool) (p q : Port) → (if h then Some p else None) ≡ Some q → p ≡ q
facing-partner true p q e = cc
facing-partner false p q e = absurd (let n : None ≡ Some q = e in cc)

-- from the two nodes that face each other in the net
pub Given-from : (g : Graph) (first second : NodeId) (born : List (Kind × ℕ))
    (joins : List (JoinEnd × JoinEnd)) → IsTabled g.free g.nodes g.partners → AreFacing g first second →
    uses_up joins (open_ends (kind_at g.nodes first.0) (kind_at g.nodes second.0) born) ≡ true →
    Given g.free g.nodes g.partners first.0 second.0 born joins
Given-from g first second born joins net face fit =
    let a = g.free + 3 * first.0 + 0 in
    let q = other g.partners a in
    let live : has_port g.free g.nodes (Of first 0) ≡ true = facing-port
    (has_port g.free g.nodes (Of first 0)) (port_at g.free q) (Of second 0) face.1 in
    let at : port_at g.free q ≡ Of second 0 = facing-partner (has_port g.free g.nodes (Of first 0))
    (port_at g.free q) (Of second 0) face.1 in
    let qs : q ≡ g.free + 3 * second.0 + 0 = sym (place-port_at g.free q) ∙ ap (place g.free) at in
    let qa : other g.partners q ≡ a = net.paired a in
    let ne : other g.partners q ≢ q = λ e. face.0 (let same : a ≡ q = sym qa ∙ e in omega arith) in
    let pq = net.ports q in
    let alive : has_port g.free g.nodes (port_at g.free q) ≡ true = grind (arith, nat_tests) in
    let live2 : has_slot (kind_at g.nodes second.0) 0 ≡ true = ap (has_port g.free g.nodes) (sym at) ∙ alive in
    let joined : other g.partners (g.free + 3 * first.0) ≡ g.free + 3 * second.0 = omega
    (arith, ap (other g.partners) (add-zero (g.free + 3 * first.0)), qs) in
    record {
      net = net;
      facing = record {
        two = face.0;
        first_live = live;
        second_live = live2;
        joined = joined;
      };
      fit = fit;
    }

-- two nodes are live
pub two-live : (nodes : List (Option (Kind × ℕ))) (xs : List ℕ) (free first second : ℕ)
    (born : List (Kind × ℕ)) (joins : List (JoinEnd × JoinEnd)) →
    Given free nodes xs first second born joins → 2 ≤ count_by is_some nodes
two-live nodes xs free first second born joins g =
    let e = count-renewed nodes first second [] g.facing.two g.facing.first_live g.facing.second_live in
    omega (arith, e)

-- the fields after a replacement keep what a net's fields keep
pub kept : (free live : ℕ) (nodes nodes' : List (Option (Kind × ℕ))) (xs xs' : List ℕ)
    (first second : ℕ) (born : List (Kind × ℕ)) (joins : List (JoinEnd × JoinEnd)) →
    Given free nodes xs first second born joins → live ≡ count_by is_some nodes →
    nodes' ≡ renewed nodes first second born → xs' ≡ rewired free (length nodes) xs first second born joins →
    (live - 2 + length born ≡ count_by is_some nodes')
    × (length nodes' ≡ length nodes + length born) × IsTabled free nodes' xs'
kept free live nodes nodes' xs xs' first second born joins g l en ex =
    let e = count-renewed nodes first second born g.facing.two g.facing.first_live g.facing.second_live in
    let two = two-live nodes xs free first second born joins g in
    let n = IsTabled-rewired free nodes xs first second born joins g in
    rw (en, ex) (omega (arith, e, two, l), length-renewed nodes first second born, n)
