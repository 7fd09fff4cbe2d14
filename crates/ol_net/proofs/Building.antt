-- What is refused by places is what is refused by ports
use Rattle.std.proofs.Common.{◌≡◌, ◌≢◌, ℕ, ◌<◌, ◌≤◌, ◌==◌, true, false, List, [], ◌∷◌, length, get_or, take, map}
use Rattle.std.proofs.Common.{Option, Some, refl, sym, ap, ◌∙◌, inl, inr, ◌⊎◌, arith, zero, suc}
use Rattle.std.proofs.lemmas.Bool.{cases_eq, cases_lt, cases_Bool, both_ways}
use Rattle.std.proofs.lemmas.Bool.Decides.{nat_tests}
use Rattle.std.proofs.lemmas.List.{length-take-le, get_or-take}
use Rattle.ol_law_edges.specs.Edges.{IsIn, Near}
use Rattle.ol_net.specs.declared.parts.Kind.{Kind}
use Rattle.ol_net.specs.declared.parts.Port.{Port}
use Rattle.ol_net.specs.declared.parts.Port.TheVariants.{Free, Of}
use Rattle.ol_net.specs.Pairing.{other}
use Rattle.ol_net.specs.Linking.{across, partner_among}
use Rattle.ol_net.specs.Graph.{Graph, IsTabled, kind_at, has_port, place, port_at, partner_of}
use Rattle.ol_net.specs.Nets.{NamedPort, Linked, SameNet}
use Rattle.ol_net.specs.Numbered.{numbered_port, nodes_from, numbered_from, net_of, net_of_parts, all_live}
use Rattle.ol_net.specs.Build.{FirstOf, NoneOf, BadPortAt, HasEnd, TwiceAt, IsLoose, ComesBefore}
use Rattle.ol_net.specs.Build.{IsFirstLoose, Builds, link_at}
use Rattle.ol_net.specs.Tabling.{places, is_apart, MeetsAt, AloneAt, LinkedUp, IsTable, AreTables}
use Rattle.ol_net.proofs.Places.{has_slot-lt, place-within, port_at-place, partner_in-some}
use Rattle.ol_net.proofs.Linking.{places-at, length-places, good_port, IsTabled-from_links}
use Rattle.ol_net.proofs.Numbered.{linked, linked_back, partner_of-parts, partner_of-back}

-- Edges by their vertices

abbrev edge_at : List (ℕ × ℕ) → ℕ → ℕ × ℕ
edge_at es i = get_or es i (0, 0)

-- each edge has two different vertices
abbrev AllOfTwo : List (ℕ × ℕ) → Type 0
AllOfTwo es = (i : ℕ) → i < length es → (edge_at es i).0 ≢ (edge_at es i).1

-- an edge of k and x
record EdgeBetween (es : List (ℕ × ℕ)) (k x : ℕ) : Type 0 where
  at : ℕ
  within : at < length es
  ends : (((edge_at es at).0 ≡ k) × ((edge_at es at).1 ≡ x)) ⊎ (((edge_at es at).1 ≡ k) × ((edge_at es at).0 ≡ x))

across-ends : (e : ℕ × ℕ) (k x : ℕ) → across e k ≡ x → x ≢ k → ((e.0 ≡ k) × (e.1 ≡ x)) ⊎ ((e.1 ≡ k) × (e.0 ≡ x))
across-ends e k x h ne = elim (cases_eq e.0 k) [
  | inl a ↦ let t : (e.0 == k) ≡ true = grind (arith, nat_tests) in inl (a, rw t at h)
  | inr a ↦
      let t : (e.0 == k) ≡ false = grind (arith, nat_tests) in
      elim (cases_eq e.1 k) [
        | inl b ↦ let u : (e.1 == k) ≡ true = grind (arith, nat_tests) in inr (b, rw (t, u) at h)
        | inr b ↦ let u : (e.1 == k) ≡ false = grind (arith, nat_tests) in absurd (ne (sym (rw (t, u) at h)))
      ]
]

partner_among-edge : (es : List (ℕ × ℕ)) (k x : ℕ) → partner_among es k ≡ x → x ≢ k → EdgeBetween es k x
partner_among-edge [] k x h ne = absurd (ne (sym h))
partner_among-edge (e ∷ es) k x h ne = elim (cases_eq (partner_among es k) k) [
  | inl same ↦
      let t : (partner_among es k == k) ≡ true = grind (arith, nat_tests) in
      record { at = 0; within = omega arith; ends = across-ends e k x (rw t at h) ne }
  | inr other ↦
      let t : (partner_among es k == k) ≡ false = grind (arith, nat_tests) in
      let r = partner_among-edge es k x (rw t at h) ne in
      record { at = suc r.at; within = omega (arith, r.within); ends = r.ends }
]

-- the vertex of an edge has a partner
partner_among-ne : (es : List (ℕ × ℕ)) (k i : ℕ) → AllOfTwo es → i < length es →
    ((edge_at es i).0 ≡ k) ⊎ ((edge_at es i).1 ≡ k) → partner_among es k ≢ k
partner_among-ne [] k i two lt h same = omega arith
partner_among-ne (e ∷ es) k zero two lt h same = elim (cases_eq (partner_among es k) k) [
  | inl alone ↦
      let t : (partner_among es k == k) ≡ true = grind (arith, nat_tests) in
      let there : across e k ≡ k = rw t at same in
      let ne : e.0 ≢ e.1 = two 0 (omega arith) in
      elim h [
        | inl a ↦ let u : (e.0 == k) ≡ true = grind (arith, nat_tests) in ne (a ∙ sym (rw u at there))
        | inr b ↦
            let u : (e.0 == k) ≡ false = grind (arith, nat_tests) in
            let v : (e.1 == k) ≡ true = grind (arith, nat_tests) in
            ne (rw (u, v) at there ∙ sym b)
      ]
  | inr partnered ↦
      let t : (partner_among es k == k) ≡ false = grind (arith, nat_tests) in
      partnered (rw t at same)
]
partner_among-ne (e ∷ es) k (suc i) two lt h same =
    let rest = partner_among-ne es k i (λ j l. two (suc j) (omega arith)) (omega arith) h in
    let t : (partner_among es k == k) ≡ false = grind (arith, nat_tests) in
    rest (rw t at same)

is_apart-not : (es : List (ℕ × ℕ)) (a b : ℕ) → is_apart es (a, b) ≡ false →
    (a ≡ b) ⊎ ((partner_among es a ≢ a) ⊎ (partner_among es b ≢ b))
is_apart-not es a b h = elim (cases_eq a b) [
  | inl e ↦ inl e
  | inr ne ↦ elim (cases_eq (partner_among es a) a) [
    | inl alone ↦ elim (cases_eq (partner_among es b) b) [
      | inl alone_too ↦ let t : is_apart es (a, b) ≡ true = grind (arith, nat_tests) in absurd (both_ways _ h t)
      | inr met ↦ inr (inr met)
    ]
    | inr met ↦ inr (inl met)
  ]
]

is_apart-two : (es : List (ℕ × ℕ)) (a b : ℕ) → is_apart es (a, b) ≡ true → a ≢ b
is_apart-two es a b h e = grind (arith, nat_tests)

not_apart-same : (es : List (ℕ × ℕ)) (a b : ℕ) → a ≡ b → is_apart es (a, b) ≡ false
not_apart-same es a b e = let t : (a == b) ≡ true = grind (arith, nat_tests) in rw t refl

not_apart-first : (es : List (ℕ × ℕ)) (a b : ℕ) → partner_among es a ≢ a → is_apart es (a, b) ≡ false
not_apart-first es a b ne = let t : (partner_among es a == a) ≡ false = grind (arith, nat_tests) in
    grind (arith, nat_tests)

not_apart-second : (es : List (ℕ × ℕ)) (a b : ℕ) → partner_among es b ≢ b → is_apart es (a, b) ≡ false
not_apart-second es a b ne = let t : (partner_among es b == b) ≡ false = grind (arith, nat_tests) in
    grind (arith, nat_tests)

-- Links by their ports

place-injective : (free : ℕ) (nodes : List (Option (Kind × ℕ))) (p q : Port) →
    has_port free nodes p ≡ true → has_port free nodes q ≡ true → place free p ≡ place free q → p ≡ q
place-injective free nodes p q hp hq e = sym (port_at-place free nodes p hp) ∙ ap (port_at free) e
    ∙ port_at-place free nodes q hq

end-port : (free : ℕ) (nodes : List (Option (Kind × ℕ))) (links : List (Port × Port)) (j : ℕ)
    (p : Port) → NoneOf (BadPortAt free nodes links) → j < length links →
    HasEnd (link_at links j) p → has_port free nodes p ≡ true
end-port free nodes links j p good lt (inl e) = rw (← e)
    (good_port free nodes (link_at links j).0 (λ lacks. good j (lt, inl lacks)))
end-port free nodes links j p good lt (inr e) = rw (← e)
    (good_port free nodes (link_at links j).1 (λ lacks. good j (lt, inr lacks)))

-- the end of a link whose place has the place of p is p
end-at : (free : ℕ) (nodes : List (Option (Kind × ℕ))) (links : List (Port × Port)) (j : ℕ)
    (p : Port) → NoneOf (BadPortAt free nodes links) → has_port free nodes p ≡ true → j < length links →
    ((edge_at (places free links) j).0 ≡ place free p)
    ⊎ ((edge_at (places free links) j).1 ≡ place free p) → HasEnd (link_at links j) p
end-at free nodes links j p good has lt h =
    let at = places-at free links j in
    elim h [
      | inl e ↦ inl (place-injective free nodes (link_at links j).0 p
          (end-port free nodes links j (link_at links j).0 good lt (inl refl)) has
          (sym (ap (λ (w : ℕ × ℕ). w.0) at) ∙ e))
      | inr e ↦ inr (place-injective free nodes (link_at links j).1 p
          (end-port free nodes links j (link_at links j).1 good lt (inr refl)) has
          (sym (ap (λ (w : ℕ × ℕ). w.1) at) ∙ e))
    ]

end-place : (free : ℕ) (links : List (Port × Port)) (j : ℕ) (p : Port) → HasEnd (link_at links j) p →
    ((edge_at (places free links) j).0 ≡ place free p) ⊎ ((edge_at (places free links) j).1 ≡ place free p)
end-place free links j p (inl e) = inl (ap (λ (w : ℕ × ℕ). w.0) (places-at free links j) ∙ ap (place free) e)
end-place free links j p (inr e) = inr (ap (λ (w : ℕ × ℕ). w.1) (places-at free links j) ∙ ap (place free) e)

-- A port twice

-- the place of p meets an earlier link, which then has p
met-earlier : (free : ℕ) (nodes : List (Option (Kind × ℕ))) (links : List (Port × Port)) (j : ℕ)
    (p : Port) → NoneOf (BadPortAt free nodes links) → has_port free nodes p ≡ true →
    j < length links → partner_among (take j (places free links)) (place free p) ≢ place free p →
    (i : ℕ) × (i < j) × HasEnd (link_at links i) p
met-earlier free nodes links j p good has lt met =
    let es = places free links in
    let r = partner_among-edge (take j es) (place free p) _ refl met in
    let len : length (take j es) ≡ j = length-take-le j es (omega (arith, length-places free links)) in
    let less : r.at < j = omega (arith, r.within, len) in
    let same : edge_at (take j es) r.at ≡ edge_at es r.at = get_or-take j es r.at (0, 0) less in (
      r.at,
      less,
      end-at free nodes links r.at p good has (omega arith)
          (elim r.ends [
            | inl e ↦ inl (sym (ap (λ (w : ℕ × ℕ). w.0) same) ∙ e.0)
            | inr e ↦ inr
                (sym (ap (λ (w : ℕ × ℕ). w.1) same) ∙ e.0)
          ]),
    )

TwiceAt-from_places : (free : ℕ) (nodes : List (Option (Kind × ℕ))) (links : List (Port × Port))
    (j : ℕ) → NoneOf (BadPortAt free nodes links) → MeetsAt (places free links) j → TwiceAt links j
TwiceAt-from_places free nodes links j good h =
    let es = places free links in
    let l = link_at links j in
    let lt : j < length links = omega (arith, h.0, length-places free links) in
    let apart : is_apart (take j es) (place free l.0, place free l.1) ≡ false = rw (places-at free links j) at h.1 in
    let first = end-port free nodes links j l.0 good lt (inl refl) in
    let second = end-port free nodes links j l.1 good lt (inr refl) in (
      lt,
      elim (is_apart-not (take j es) (place free l.0) (place free l.1) apart) [
        | inl e ↦ inl (place-injective free nodes l.0 l.1 first second e)
        | inr (inl met) ↦ let m = met-earlier free nodes links j l.0 good first lt met in
            inr (m.0, l.0, m.1, m.2, inl refl)
        | inr (inr met) ↦ let m = met-earlier free nodes links j l.1 good second lt met in
            inr (m.0, l.1, m.1, m.2, inr refl)
      ],
    )

-- links that meet no earlier one have two ports each
apart-two : (free : ℕ) (links : List (Port × Port)) (i : ℕ) → i < length links → (MeetsAt (places free links) i → ⊥) →
    (edge_at (places free links) i).0 ≢ (edge_at (places free links) i).1
apart-two free links i lt none =
    let es = places free links in
    elim (cases_Bool (is_apart (take i es) (edge_at es i))) [
      | inl apart ↦ is_apart-two (take i es) (edge_at es i).0 (edge_at es i).1 apart
      | inr met ↦ absurd (none (omega (arith, length-places free links), met))
    ]

two-before : (free : ℕ) (links : List (Port × Port)) (j : ℕ) → j ≤ length links →
    ((i : ℕ) → i < j → MeetsAt (places free links) i → ⊥) → AllOfTwo (take j (places free links))
two-before free links j le none i lt =
    let es = places free links in
    let len : length (take j es) ≡ j = length-take-le j es (omega (arith, length-places free links)) in
    let less : i < j = omega (arith, lt, len) in
    let same : edge_at (take j es) i ≡ edge_at es i = get_or-take j es i (0, 0) less in
    λ e. apart-two free links i (omega arith) (none i less)
    (sym (ap (λ (w : ℕ × ℕ). w.0) same) ∙ e ∙ ap (λ (w : ℕ × ℕ). w.1) same)

met-later : (free : ℕ) (links : List (Port × Port)) (i j : ℕ) (p : Port) → j < length links →
    ((k : ℕ) → k < j → MeetsAt (places free links) k → ⊥) → i < j → HasEnd (link_at links i) p →
    partner_among (take j (places free links)) (place free p) ≢ place free p
met-later free links i j p lt none less h =
    let es = places free links in
    let len : length (take j es) ≡ j = length-take-le j es (omega (arith, length-places free links)) in
    let same : edge_at (take j es) i ≡ edge_at es i = get_or-take j es i (0, 0) less in
    let ends : ((edge_at (take j es) i).0 ≡ place free p)
    ⊎ ((edge_at (take j es) i).1 ≡ place free p) = elim (end-place free links i p h) [
      | inl e ↦ inl (ap (λ (w : ℕ × ℕ). w.0) same ∙ e)
      | inr e ↦ inr (ap (λ (w : ℕ × ℕ). w.1) same ∙ e)
    ] in
    partner_among-ne (take j es) (place free p) i (two-before free links j (omega arith) none)
    (omega (arith, len, less)) ends

MeetsAt-from_ports : (free : ℕ) (links : List (Port × Port)) (j : ℕ) →
    ((i : ℕ) → i < j → MeetsAt (places free links) i → ⊥) → TwiceAt links j → MeetsAt (places free links) j
MeetsAt-from_ports free links j none h =
    let es = places free links in
    let l = link_at links j in
    let apart : is_apart (take j es) (place free l.0, place free l.1) ≡ false = elim h.1 [
      | inl e ↦ not_apart-same (take j es) (place free l.0) (place free l.1) (ap (place free) e)
      | inr m ↦ elim m.4 [
        | inl e ↦ not_apart-first (take j es) (place free l.0) (place free l.1)
            (rw e (met-later free links m.0 j m.1 h.0 none m.2 m.3))
        | inr e ↦ not_apart-second (take j es) (place free l.0) (place free l.1)
            (rw e (met-later free links m.0 j m.1 h.0 none m.2 m.3))
      ]
    ] in
    (omega (arith, h.0, length-places free links), rw (places-at free links j) apart)

pub TwiceAt-first : (free : ℕ) (nodes : List (Option (Kind × ℕ))) (links : List (Port × Port))
    (j : ℕ) → NoneOf (BadPortAt free nodes links) → FirstOf (MeetsAt (places free links)) j →
    FirstOf (TwiceAt links) j
TwiceAt-first free nodes links j good h = (
  TwiceAt-from_places free nodes links j good h.0,
  λ k lt twice. h.1 k lt (MeetsAt-from_ports free links k (λ i less. h.1 i (omega arith)) twice),
)

pub TwiceAt-none : (free : ℕ) (links : List (Port × Port)) → NoneOf (MeetsAt (places free links)) →
    NoneOf (TwiceAt links)
TwiceAt-none free links none k twice = none k (MeetsAt-from_ports free links k (λ i less. none i) twice)

-- A loose port

all-two : (free : ℕ) (links : List (Port × Port)) → NoneOf (MeetsAt (places free links)) → AllOfTwo (places free links)
all-two free links none i lt = apart-two free links i (omega (arith, lt, length-places free links)) (none i)

IsLoose-alone : (free : ℕ) (nodes : List (Option (Kind × ℕ))) (links : List (Port × Port))
    (xs : List ℕ) (p : Port) → NoneOf (BadPortAt free nodes links) →
    LinkedUp free nodes (places free links) xs → IsLoose free nodes links p → AloneAt free nodes xs (place free p)
IsLoose-alone free nodes links xs p good l loose =
    let es = places free links in (
      place-within free nodes p loose.0,
      rw (port_at-place free nodes p loose.0) loose.0,
      l.same (place free p) ∙ elim (cases_eq (partner_among es (place free p)) (place free p)) [
        | inl alone ↦ alone
        | inr met ↦
            let r = partner_among-edge es (place free p) _ refl met in
            let lt : r.at < length links = omega (arith, r.within, length-places free links) in
            absurd (loose.1 r.at lt (end-at free nodes links r.at p good loose.0 lt
            (elim r.ends [ inl e ↦ inl e.0 | inr e ↦ inr e.0 ])))
      ],
    )

IsLoose-from_alone : (free : ℕ) (nodes : List (Option (Kind × ℕ))) (links : List (Port × Port))
    (xs : List ℕ) (p : Port) → NoneOf (MeetsAt (places free links)) →
    LinkedUp free nodes (places free links) xs → has_port free nodes p ≡ true →
    other xs (place free p) ≡ place free p → IsLoose free nodes links p
IsLoose-from_alone free nodes links xs p none l has alone = (
  has,
  λ j lt h. partner_among-ne (places free links) (place free p) j (all-two free links none)
      (omega (arith, lt, length-places free links)) (end-place free links j p h) (sym (l.same (place free p)) ∙ alone),
)

pub ComesBefore-places : (free : ℕ) (nodes : List (Option (Kind × ℕ))) (p q : Port) →
    has_port free nodes p ≡ true → has_port free nodes q ≡ true → place free p < place free q → ComesBefore p q
ComesBefore-places free nodes (Free k) (Free l) hp hq lt = lt
ComesBefore-places free nodes (Free k) (Of m t) hp hq lt = tt
ComesBefore-places free nodes (Of n s) (Free l) hp hq lt = let inside : l < free = grind
    (arith, nat_tests) in omega arith
ComesBefore-places free nodes (Of n s) (Of m t) hp hq lt =
    let s3 = has_slot-lt (kind_at nodes n.0) s hp in
    let t3 = has_slot-lt (kind_at nodes m.0) t hq in
    elim (cases_lt n.0 m.0) [ inl less ↦ inl less | inr le ↦ inr (omega arith, omega arith) ]

pub IsFirstLoose-from_places : (free : ℕ) (nodes : List (Option (Kind × ℕ)))
    (links : List (Port × Port)) (xs : List ℕ) (p : Port) → NoneOf (BadPortAt free nodes links) →
    NoneOf (MeetsAt (places free links)) → LinkedUp free nodes (places free links) xs →
    FirstOf (AloneAt free nodes xs) (place free p) → has_port free nodes p ≡ true →
    IsFirstLoose free nodes links p
IsFirstLoose-from_places free nodes links xs p good none l h has = (
  IsLoose-from_alone free nodes links xs p none l has h.0.2,
  λ q loose. elim (cases_eq (place free p) (place free q)) [
    | inl e ↦ inl (place-injective free nodes q p loose.0 has (sym e))
    | inr ne ↦ elim (cases_lt (place free q) (place free p)) [
      | inl lt ↦ absurd (h.1 (place free q) lt (IsLoose-alone free nodes links xs q good l loose))
      | inr le ↦ inr (ComesBefore-places free nodes p q has loose.0 (omega arith))
    ]
  ],
)

-- The net

pub nodes_from-live : (n : ℕ) (ks : List (Kind × ℕ)) → nodes_from n (all_live ks) ≡ numbered_from n ks
nodes_from-live n [] = refl
nodes_from-live n (k ∷ ks) = ap (λ w. (n, k.0, k.1) ∷ w) (nodes_from-live (suc n) ks)

abbrev pub numbered_link : Port × Port → NamedPort ℕ × NamedPort ℕ
numbered_link l = (numbered_port l.0, numbered_port l.1)

link_in : (links : List (Port × Port)) (p q : NamedPort ℕ) → IsIn (p, q) (map numbered_link links) →
    (j : ℕ) × (j < length links) × (p ≡ numbered_port (link_at links j).0) × (q ≡ numbered_port (link_at links j).1)
link_in [] p q h = absurd h
link_in (l ∷ links) p q (inl e) =
    (0, omega arith, ap (λ (w : NamedPort ℕ × NamedPort ℕ). w.0) e, ap (λ (w : NamedPort ℕ × NamedPort ℕ). w.1) e)
link_in (l ∷ links) p q (inr h) = let r = link_in links p q h in (suc r.0, omega (arith, r.1), r.2, r.3)

in_links : (links : List (Port × Port)) (j : ℕ) → j < length links →
    IsIn (numbered_port (link_at links j).0, numbered_port (link_at links j).1) (map numbered_link links)
in_links [] j lt = absurd (omega arith)
in_links (l ∷ links) zero lt = inl refl
in_links (l ∷ links) (suc j) lt = inr (in_links links j (omega arith))

two-once : (free : ℕ) (nodes : List (Option (Kind × ℕ))) (links : List (Port × Port)) →
    NoneOf (BadPortAt free nodes links) → NoneOf (TwiceAt links) → AllOfTwo (places free links)
two-once free nodes links good once j within e =
    let lt : j < length links = omega (arith, within, length-places free links) in
    let at = places-at free links j in
    let first = end-port free nodes links j (link_at links j).0 good lt (inl refl) in
    let second = end-port free nodes links j (link_at links j).1 good lt (inr refl) in
    once j (
      lt,
      inl (place-injective free nodes (link_at links j).0 (link_at links j).1 first second
          (sym (ap (λ (w : ℕ × ℕ). w.0) at) ∙ e ∙ ap (λ (w : ℕ × ℕ). w.1) at)),
    )

-- the place that the links pair with the first port of a link is that of the second
partner_among-link : (free : ℕ) (nodes : List (Option (Kind × ℕ))) (links : List (Port × Port))
    (j : ℕ) → NoneOf (BadPortAt free nodes links) → NoneOf (TwiceAt links) → j < length links →
    partner_among (places free links) (place free (link_at links j).0) ≡ place free (link_at links j).1
partner_among-link free nodes links j good once lt =
    let es = places free links in
    let l = link_at links j in
    let at = places-at free links j in
    let two = two-once free nodes links good once in
    let within : j < length es = omega (arith, lt, length-places free links) in
    let met = partner_among-ne es (place free l.0) j two within (inl (ap (λ (w : ℕ × ℕ). w.0) at)) in
    let r = partner_among-edge es (place free l.0) _ refl met in
    let first = end-port free nodes links j l.0 good lt (inl refl) in
    let inside : r.at < length links = omega (arith, r.within, length-places free links) in
    let has = end-at free nodes links r.at l.0 good first inside (elim r.ends [ inl e ↦ inl e.0 | inr e ↦ inr e.0 ]) in
    elim (cases_eq r.at j) [
      | inl same ↦ elim r.ends [
        | inl e ↦ sym (sym (ap (λ (w : ℕ × ℕ). w.1) at) ∙ sym (ap (λ i. (edge_at es i).1) same) ∙ e.1)
        | inr e ↦ absurd (two j within (ap (λ (w : ℕ × ℕ). w.0) at ∙ sym e.0 ∙ ap (λ i. (edge_at es i).1) same))
      ]
      | inr ne ↦ elim (cases_lt r.at j) [
        | inl less ↦ absurd (once j (lt, inr (r.at, l.0, less, has, inl refl)))
        | inr le ↦ absurd (once r.at (inside, inr (j, l.0, omega arith, inl refl, has)))
      ]
    ]

Linked-back : (g : Graph) (p q : NamedPort ℕ) → Linked (net_of g) p q → Linked (net_of g) q p
Linked-back g p q (inl h) = inr h
Linked-back g p q (inr h) = inl h

Linked-named : (g : Graph) (p q p' q' : NamedPort ℕ) → p ≡ p' → q ≡ q' → Linked (net_of g) p' q' → Linked (net_of g) p q
Linked-named g p q p' q' ep eq h = rw (ep, eq) h

in_links-named : (links : List (Port × Port)) (j : ℕ) (p q : NamedPort ℕ) → j < length links →
    p ≡ numbered_port (link_at links j).0 → q ≡ numbered_port (link_at links j).1 →
    IsIn (p, q) (map numbered_link links)
in_links-named links j p q lt ep eq = rw (ep, eq) (in_links links j lt)

-- a given link is a link of the net
Linked-given : (g : Graph) (links : List (Port × Port)) (p q : NamedPort ℕ) →
    IsTabled g.free g.nodes g.partners → LinkedUp g.free g.nodes (places g.free links) g.partners →
    NoneOf (BadPortAt g.free g.nodes links) → NoneOf (TwiceAt links) →
    IsIn (p, q) (map numbered_link links) → Linked (net_of g) p q
Linked-given g links p q t l good once h =
    let r = link_in links p q h in
    let m = link_at links r.0 in
    let first = end-port g.free g.nodes links r.0 m.0 good r.1 (inl refl) in
    let second = end-port g.free g.nodes links r.0 m.1 good r.1 (inr refl) in
    let there : other g.partners (place g.free m.0) ≡ place g.free m.1 = l.same (place g.free m.0)
    ∙ partner_among-link g.free g.nodes links r.0 good once r.1 in
    let partner : partner_of g m.0 ≡ Some m.1 =
    partner_in-some g.free g.nodes g.partners m.0 first ∙ ap (λ k. Some (port_at g.free k)) there
    ∙ ap (λ w. Some w) (port_at-place g.free g.nodes m.1 second) in
    Linked-named g p q (numbered_port m.0) (numbered_port m.1) r.2 r.3 (linked g m.0 m.1 t partner)

-- a link of the net was given
Linked-was_given : (g : Graph) (links : List (Port × Port)) (p q : NamedPort ℕ) →
    IsTabled g.free g.nodes g.partners → LinkedUp g.free g.nodes (places g.free links) g.partners →
    NoneOf (BadPortAt g.free g.nodes links) → Linked (net_of g) p q → Near (map numbered_link links) p q
Linked-was_given g links p q t l good h =
    let es = places g.free links in
    let k = linked_back g p q t h in
    let parts = partner_of-parts g k.from k.to k.partner in
    let a = place g.free k.from in
    let b = other g.partners a in
    let here = port_at-place g.free g.nodes k.from parts.0 in
    let ne : b ≢ a = λ e. (partner_of-back g k.from k.to t k.partner).1 (sym parts.1 ∙ ap (port_at g.free) e ∙ here) in
    let r = partner_among-edge es a b (sym (l.same a)) ne in
    let lt : r.at < length links = omega (arith, r.within, length-places g.free links) in
    let m = link_at links r.at in
    let at = places-at g.free links r.at in
    let first_place : (edge_at es r.at).0 ≡ place g.free m.0 = ap (λ (w : ℕ × ℕ). w.0) at in
    let second_place : (edge_at es r.at).1 ≡ place g.free m.1 = ap (λ (w : ℕ × ℕ). w.1) at in
    let first = port_at-place g.free g.nodes m.0 (end-port g.free g.nodes links r.at m.0 good lt (inl refl)) in
    let second = port_at-place g.free g.nodes m.1 (end-port g.free g.nodes links r.at m.1 good lt (inr refl)) in
    elim r.ends [
      | inl e ↦
          let p0 : m.0 ≡ k.from = sym first ∙ ap (port_at g.free) (sym first_place ∙ e.0) ∙ here in
          let p1 : m.1 ≡ k.to = sym second ∙ ap (port_at g.free) (sym second_place ∙ e.1) ∙ parts.1 in
          inl (in_links-named links r.at p q lt (k.first ∙ ap numbered_port (sym p0))
          (k.second ∙ ap numbered_port (sym p1)))
      | inr e ↦
          let p1 : m.1 ≡ k.from = sym second ∙ ap (port_at g.free) (sym second_place ∙ e.0) ∙ here in
          let p0 : m.0 ≡ k.to = sym first ∙ ap (port_at g.free) (sym first_place ∙ e.1) ∙ parts.1 in
          inr (in_links-named links r.at q p lt (k.second ∙ ap numbered_port (sym p0))
          (k.first ∙ ap numbered_port (sym p1)))
    ]

SameNet-given : (free : ℕ) (nodes : List (Kind × ℕ)) (links : List (Port × Port)) (xs : List ℕ) →
    NoneOf (BadPortAt free (all_live nodes) links) → IsTable free (all_live nodes) links xs →
    SameNet (net_of (record { free = free; nodes = all_live nodes; partners = xs })) (net_of_parts free nodes links)
SameNet-given free nodes links xs good table =
    let g : Graph = record { free = free; nodes = all_live nodes; partners = xs } in
    let t = IsTabled-from_links free (all_live nodes) (places free links) xs table.linked table.none_alone in
    record {
      nodes = λ x k i. (λ h. rw (nodes_from-live 0 nodes) at h, λ h. rw (nodes_from-live 0 nodes) h);
      free_ports = refl;
      links = λ p q. (
        λ h. Linked-was_given g links p q t table.linked good h,
        λ h. elim h [
          | inl a ↦ Linked-given g links p q t table.linked good table.once a
          | inr a ↦ Linked-back g q p (Linked-given g links q p t table.linked good table.once a)
        ],
      );
    }

pub Builds-from_tables : (top free : ℕ) (nodes : List (Kind × ℕ)) (links : List (Port × Port))
    (live : List (Option (Kind × ℕ))) (xs : List ℕ) →
    AreTables top free nodes links live xs →
    Builds top free nodes links (record { free = free; nodes = live; partners = xs })
Builds-from_tables top free nodes links live xs t = record {
  good_indexes = t.good_indexes;
  good_ports = t.good_ports;
  once = t.table.once;
  none_loose = λ p loose. t.table.none_alone (place free p)
      (IsLoose-alone free (all_live nodes) links xs p t.good_ports t.table.linked loose);
  same_free = refl;
  same_nodes = t.same_nodes;
  same_net = rw t.same_nodes (SameNet-given free nodes links xs t.good_ports t.table);
}
