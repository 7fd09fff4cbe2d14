-- How long the text of a net is
use Rattle.std.proofs.Common.{◌≡◌, ℕ, suc, ◌+◌, ◌-◌, ◌*◌, ◌/◌, ◌^◌, ◌<◌, ◌≤◌, ◌⊎◌, inl, inr, true}
use Rattle.std.proofs.Common.{false, eqb, nat_lt, if◌then◌else◌, List, [], ◌∷◌, ◌++◌, length}
use Rattle.std.proofs.Common.{get_or, codes, Option, Some, None, refl, sym, ◌∙◌, ap, arith}
use Rattle.std.specs.Fmt.{decimal}
use Rattle.std.specs.List.{AllByRecursion, IsDistinct, list_any}
use Rattle.std.proofs.lemmas.Bool.{cases_Bool, ne_eqb}
use Rattle.std.proofs.lemmas.Bool.Decides.{nat_tests}
use Rattle.std.proofs.lemmas.Fmt.{length-decimal-le}
use Rattle.std.proofs.lemmas.List.{length-append, get_or_default}
use Rattle.std.proofs.lemmas.Map.Keys.{IsDistinct-cons}
use Rattle.std.proofs.lemmas.Map.Steps.{length-le_from_distinct_below}
use Rattle.ol_net.specs.declared.parts.Kind.{Kind}
use Rattle.ol_net.specs.declared.parts.Kind.TheVariants as kind
use Rattle.ol_net.specs.declared.parts.Port.{Port}
use Rattle.ol_net.specs.declared.parts.Port.TheVariants.{Free, Of}
use Rattle.ol_net.specs.Indexes.{HasIndexes}
use Rattle.ol_net.specs.Graph.{Graph, IsTabled, kind_at, has_port, port_at}
use Rattle.ol_net.specs.Pairing.{other, IsPaired}
use Rattle.ol_net.specs.Numbered.{net_of}
use Rattle.ol_net.specs.PartTexts.{kind_text, index_text, port_text}
use Rattle.ol_net.proofs.Tables.{other-past}
use Rattle.ol_netfile.specs.NetTexts.{Front, nothing, titled, so_far, title, free, node, link, Adds}
use Rattle.ol_netfile.specs.NetTexts.{Lines, none, more, IsNetText, IsIndex, IsPortInFile}
use Rattle.ol_netfile.specs.Written.{net_text}
use Rattle.ol_netfile.specs.Writing.{live_kinds, ranks_from, links_at}
use Rattle.ol_netfile.proofs.Rewritten.{pairs_from}
use Rattle.ol_netfile.proofs.Spelled.{length-live, spelled-live}

-- Two for each pair, and the places of nodes that are gone: all differ, and are below the size of the table.

-- number y is below n, and it is alone, or it and its partner are k at least
abbrev Stays : (ℕ → ℕ) → ℕ → ℕ → ℕ → Type 0
Stays T n k y = (y < n) × ((T y ≡ y) ⊎ ((k ≤ y) × (k ≤ T y)))

-- both ends of each pair, and then these
abbrev ends : ℕ → List ℕ → List ℕ → List ℕ
ends k [] alone = alone
ends k (p ∷ ps) alone = if nat_lt k p then k ∷ p ∷ ends (suc k) ps alone else ends (suc k) ps alone

length-ends : (k : ℕ) (ps alone : List ℕ) → length (ends k ps alone) ≡ 2 * length (pairs_from k ps) + length alone
length-ends k [] alone = omega arith
length-ends k (p ∷ ps) alone =
    let ih = length-ends (suc k) ps alone in
    elim (cases_Bool (nat_lt k p)) [ inl t ↦ rw t (omega (arith, ih)) | inr t ↦ rw t ih ]

all-more : {P Q : ℕ → Type 0} → ((y : ℕ) → P y → Q y) → (ys : List ℕ) → AllByRecursion P ys → AllByRecursion Q ys
all-more f [] h = tt
all-more f (y ∷ ys) h = (f y h.0, all-more f ys h.1)

stays-less : (T : ℕ → ℕ) (n k y : ℕ) → Stays T n (suc k) y → Stays T n k y
stays-less T n k y (lt, inl alone) = (lt, inl alone)
stays-less T n k y (lt, inr both) = (lt, inr (omega (arith, both.0), omega (arith, both.1)))

-- the table from place k on
abbrev IsFrom : (ℕ → ℕ) → ℕ → ℕ → List ℕ → Type 0
IsFrom T n k ps = (k + length ps ≤ n) × ((i : ℕ) → i < length ps → T (k + i) ≡ get_or ps i 0)

from-later : (T : ℕ → ℕ) (n k p : ℕ) (ps : List ℕ) → IsFrom T n k (p ∷ ps) → IsFrom T n (suc k) ps
from-later T n k p ps h = (
  omega (arith, h.0),
  λ i lt. let e : suc k + i ≡ k + suc i = omega arith in ap T e ∙ h.1 (suc i) (omega arith),
)

from-first : (T : ℕ → ℕ) (n k p : ℕ) (ps : List ℕ) → IsFrom T n k (p ∷ ps) → T k ≡ p
from-first T n k p ps h = let e : k ≡ k + 0 = omega arith in ap T e ∙ h.1 0 (omega arith)

module _ (T : ℕ → ℕ) (n : ℕ) (paired : IsPaired T) (past : (y : ℕ) → n ≤ y → T y ≡ y) where
  back : (k p : ℕ) → T k ≡ p → T p ≡ k
  back k p e = ap T (sym e) ∙ paired k

  within : (k p : ℕ) → T k ≡ p → k < p → p < n
  within k p e lt = elim (cases_Bool (nat_lt p n)) [
    | inl t ↦ grind (arith, nat_tests)
    | inr t ↦ let le : n ≤ p = grind (arith, nat_tests) in absurd (omega (arith, past p le, back k p e, lt))
  ]

  ends-stay : (k : ℕ) (ps alone : List ℕ) → IsFrom T n k ps →
      AllByRecursion (λ y. (y < n) × (T y ≡ y)) alone → AllByRecursion (Stays T n k) (ends k ps alone)
  ends-stay k [] alone h a = all-more (λ y r. (r.0, inl r.1)) alone a
  ends-stay k (p ∷ ps) alone h a =
      let ih = all-more (stays-less T n k) (ends (suc k) ps alone)
      (ends-stay (suc k) ps alone (from-later T n k p ps h) a) in
      let e = from-first T n k p ps h in let b = back k p e in
      elim (cases_Bool (nat_lt k p)) [
        | inl t ↦
            let lt : k < p = grind (arith, nat_tests) in let w = within k p e lt in
            rw t (
              (omega (arith, w, lt), inr (omega arith, omega (arith, e, lt))),
              ((w, inr (omega (arith, lt), omega (arith, b))), ih),
            )
        | inr t ↦ rw t ih
      ]

  -- neither end of a pair stands among the later ones
  differs : (k p y : ℕ) → T k ≡ p → k < p → Stays T n (suc k) y → (eqb k y ≡ false) × (eqb p y ≡ false)
  differs k p y e lt (w, inl alone) = (
    ne_eqb k y (λ same. omega (arith, e, lt, ap T same, alone, same)),
    ne_eqb p y (λ same. omega (arith, back k p e, lt, ap T same, alone, same)),
  )
  differs k p y e lt (w, inr both) = (
    ne_eqb k y (λ same. omega (arith, both.0, same)),
    ne_eqb p y (λ same. omega (arith, back k p e, ap T same, both.1)),
  )

  ends-differ : (k : ℕ) (ps alone : List ℕ) → IsFrom T n k ps →
      AllByRecursion (λ y. (y < n) × (T y ≡ y)) alone → IsDistinct eqb alone → IsDistinct eqb (ends k ps alone)
  ends-differ k [] alone h a d = d
  ends-differ k (p ∷ ps) alone h a d =
      let later = ends-stay (suc k) ps alone (from-later T n k p ps h) a in
      let ih = ends-differ (suc k) ps alone (from-later T n k p ps h) a d in
      let e = from-first T n k p ps h in
      elim (cases_Bool (nat_lt k p)) [
        | inl t ↦
            let lt : k < p = grind (arith, nat_tests) in
            let first = all-more (λ y r. (differs k p y e lt r).0) (ends (suc k) ps alone) later in
            let second = all-more (λ y r. (differs k p y e lt r).1) (ends (suc k) ps alone) later in
            rw t (IsDistinct-cons eqb k (p ∷ ends (suc k) ps alone)
            (ne_eqb k p (λ same. omega (arith, lt, same)), first)
            (IsDistinct-cons eqb p (ends (suc k) ps alone) second ih))
        | inr t ↦ rw t ih
      ]

below : (n : ℕ) (ys : List ℕ) → AllByRecursion (λ y. y < n) ys → (q : ℕ) → list_any (eqb q) ys ≡ true → q < n
below n [] h q i = cc
below n (y ∷ ys) h q i = elim (cases_Bool (eqb q y)) [
  | inl t ↦ let e : q ≡ y = grind (arith, nat_tests) in omega (arith, e, h.0)
  | inr t ↦ below n ys h.1 q (rw t at i)
]

-- the places of nodes that are gone, from node n on
abbrev gone_places : ℕ → ℕ → List (Option (Kind × ℕ)) → List ℕ
gone_places f n [] = []
gone_places f n (None ∷ nodes) = (f + 3 * n) ∷ (f + 3 * n + 1) ∷ (f + 3 * n + 2) ∷ gone_places f (suc n) nodes
gone_places f n (Some k ∷ nodes) = gone_places f (suc n) nodes

length-gone : (f n : ℕ) (nodes : List (Option (Kind × ℕ))) →
    length (gone_places f n nodes) + 3 * length (live_kinds nodes) ≡ 3 * length nodes
length-gone f n [] = refl
length-gone f n (None ∷ nodes) = omega (arith, length-gone f (suc n) nodes)
length-gone f n (Some k ∷ nodes) = omega (arith, length-gone f (suc n) nodes)

gone-from : (f n : ℕ) (nodes : List (Option (Kind × ℕ))) → AllByRecursion (λ y. f + 3 * n ≤ y) (gone_places f n nodes)
gone-from f n [] = tt
gone-from f n (None ∷ nodes) = (
  omega arith,
  (
    omega arith,
    (
      omega arith,
      all-more (λ y h. omega (arith, h)) (gone_places f (suc n) nodes) (gone-from f (suc n) nodes),
    ),
  ),
)
gone-from f n (Some k ∷ nodes) = all-more (λ y h. omega (arith, h)) (gone_places f (suc n) nodes)
    (gone-from f (suc n) nodes)

gone-differ : (f n : ℕ) (nodes : List (Option (Kind × ℕ))) → IsDistinct eqb (gone_places f n nodes)
unfolding IsDistinct
gone-differ f n [] = tt
gone-differ f n (None ∷ nodes) =
    let rest = gone_places f (suc n) nodes in
    let apart : (x : ℕ) → x < f + 3 * suc n →
    AllByRecursion (λ y. eqb x y ≡ false) rest = λ x lt.
    all-more (λ y h. ne_eqb x y (λ same. omega (arith, lt, h, same))) rest (gone-from f (suc n) nodes) in (
      (
        ne_eqb (f + 3 * n) (f + 3 * n + 1) (λ same. omega (arith, same)),
        (ne_eqb (f + 3 * n) (f + 3 * n + 2) (λ same. omega (arith, same)), apart (f + 3 * n) (omega arith)),
      ),
      (
        (
          ne_eqb (f + 3 * n + 1) (f + 3 * n + 2) (λ same. omega (arith, same)),
          apart (f + 3 * n + 1) (omega arith),
        ),
        (apart (f + 3 * n + 2) (omega arith), gone-differ f (suc n) nodes),
      ),
    )
gone-differ f n (Some k ∷ nodes) = gone-differ f (suc n) nodes

-- no port is at the place of a node that is gone
no-port : (f n s : ℕ) (all : List (Option (Kind × ℕ))) → s < 3 → kind_at all n ≡ None →
    has_port f all (port_at f (f + 3 * n + s)) ≡ false
no-port f n s all lt e =
    let t : nat_lt (f + 3 * n + s) f ≡ false = grind (arith, nat_tests) in
    let q : (f + 3 * n + s - f) / 3 ≡ n = omega arith in
    rw t (rw q (rw e refl))

module _ (g : Graph) (t : IsTabled g.free g.nodes g.partners) where
  is-alone : (n s : ℕ) → s < 3 → kind_at g.nodes n ≡ None → other g.partners (g.free + 3 * n + s) ≡ g.free + 3 * n + s
  is-alone n s lt e =
      let gone = no-port g.free n s g.nodes lt e in let same = t.ports (g.free + 3 * n + s) in grind (arith, nat_tests)

  gone-alone : (n : ℕ) (nodes : List (Option (Kind × ℕ))) → n + length nodes ≤ length g.nodes →
      ((m : ℕ) → m < length nodes → kind_at g.nodes (n + m) ≡ kind_at nodes m) →
      AllByRecursion (λ y. (y < length g.partners) × (other g.partners y ≡ y)) (gone_places g.free n nodes)
  gone-alone n [] few h = tt
  gone-alone n (None ∷ nodes) few h =
      let at : n ≡ n + 0 = omega arith in
      let e : kind_at g.nodes n ≡ None = ap (kind_at g.nodes) at ∙ h 0 (omega arith) in
      let zero_in : g.free + 3 * n + 0 ≡ g.free + 3 * n = omega arith in
      let size = t.size in
      let later = gone-alone (suc n) nodes (omega (arith, few))
      (λ m lt. let i : suc n + m ≡ n + suc m = omega arith in ap (kind_at g.nodes) i ∙ h (suc m) (omega arith)) in
      let at_first : other g.partners (g.free + 3 * n) ≡ g.free + 3 * n = sym
      (ap (other g.partners) zero_in) ∙ is-alone n 0 (omega arith) e ∙ zero_in in (
        (omega (arith, size, few), at_first),
        (
          (omega (arith, size, few), is-alone n 1 (omega arith) e),
          ((omega (arith, size, few), is-alone n 2 (omega arith) e), later),
        ),
      )
  gone-alone n (Some k ∷ nodes) few h =
      gone-alone (suc n) nodes (omega (arith, few))
      (λ m lt. let i : suc n + m ≡ n + suc m = omega arith in ap (kind_at g.nodes) i ∙ h (suc m) (omega arith))

  -- a net has one link for two ports
  links-few : 2 * length (pairs_from 0 g.partners) ≤ g.free + 3 * length (live_kinds g.nodes)
  links-few =
      let T = other g.partners in let n = length g.partners in
      let gone = gone_places g.free 0 g.nodes in
      let alone = gone-alone 0 g.nodes (omega arith)
      (λ m lt. let e : 0 + m ≡ m = omega arith in ap (kind_at g.nodes) e) in
      let from : IsFrom T n 0 g.partners = (
        omega arith,
        λ i lt. let e : 0 + i ≡ i = omega arith in
            ap T e ∙ get_or_default g.partners i i 0 lt,
      ) in
      let past : (y : ℕ) → n ≤ y → T y ≡ y = other-past g.partners in
      let each = all-more (λ y h. h.0) (ends 0 g.partners gone)
      (ends-stay T n t.paired past 0 g.partners gone from alone) in
      let differ = ends-differ T n t.paired past 0 g.partners gone from alone (gone-differ g.free 0 g.nodes) in
      let count = length-le_from_distinct_below (ends 0 g.partners gone) n differ
      (below n (ends 0 g.partners gone) each) in
      let size = t.size in
      omega (arith, count, length-ends 0 g.partners gone, length-gone g.free 0 g.nodes, size)

-- Lines

-- the most bytes of the lines that say so much
abbrev most_bytes : Front → ℕ
most_bytes nothing = 0
most_bytes titled = 9
most_bytes (so_far f ns ls) = 22 + 26 * length ns + 31 * length ls

kind-short : (k : Kind) → length (kind_text k) ≤ 9
kind-short kind.Lam = omega arith
kind-short kind.App = omega arith
kind-short kind.Fan = omega arith
kind-short kind.Croissant = omega arith
kind-short kind.Bracket = omega arith
kind-short kind.Eraser = omega arith

number-short : (n : ℕ) → n < 2 ^ 32 → length (decimal n) ≤ 10
number-short n lt = length-decimal-le 10 n (omega arith) (omega (arith, lt)) (omega (arith, lt))

index-short : (k : Kind) (i : ℕ) → IsIndex k i → length (index_text k i) ≤ 10
index-short kind.Lam i h = number-short i h
index-short kind.App i h = number-short i h
index-short kind.Fan i h = number-short i h
index-short kind.Croissant i h = number-short i h
index-short kind.Bracket i h = number-short i h
index-short kind.Eraser i h = omega arith

port-short : (p : Port) → IsPortInFile p → length (port_text p) ≤ 12
port-short (Free k) h = omega (arith, number-short k h)
port-short (Of n s) h =
    let slot_short = length-decimal-le 1 s (omega arith) (omega (arith, h.1)) (omega (arith, h.1)) in
    omega (arith, length-append (decimal n.0) (codes "." ++ decimal s), number-short n.0 h.0, slot_short)

adds-few : {a b : Front} {l : List ℕ} → Adds a l b → most_bytes a + length l ≤ most_bytes b
adds-few title = omega arith
adds-few (free f le) = omega (
  arith,
  length-append (decimal f) (codes "\n"),
  length-decimal-le 7 f (omega arith) (omega (arith, le)) (omega (arith, le)),
)
adds-few (node f ns n few index) =
    let after_index = length-append (index_text n.0 n.1) (codes "\n") in
    let after_kind = length-append (kind_text n.0) (codes " " ++ (index_text n.0 n.1 ++ codes "\n")) in
    omega (arith, length-append ns (n ∷ []), after_index, after_kind, kind-short n.0, index-short n.0 n.1 index)
adds-few (link f ns ls l first second before follows) =
    let after_second = length-append (port_text l.1) (codes "\n") in
    let after_first = length-append (port_text l.0) (codes " " ++ (port_text l.1 ++ codes "\n")) in
    omega (arith, length-append ls (l ∷ []), after_second, after_first, port-short l.0 first, port-short l.1 second)

lines-few : {a b : Front} {n : ℕ} {s : List ℕ} → Lines a n s b → most_bytes a + length s ≤ most_bytes b
lines-few (none a) = omega arith
lines-few (more a b c n s l lines add) = omega (arith, length-append s l, lines-few lines, adds-few add)

text-few : (text : List ℕ) (f : ℕ) (ns : List (Kind × ℕ)) (ls : List (Port × Port)) →
    IsNetText text f ns ls → length text ≤ 22 + 26 * length ns + 31 * length ls
text-few text f ns ls h = omega (arith, lines-few h.1)

length-links : (ranks : List ℕ) (f k : ℕ) (ps : List ℕ) → length (links_at ranks f k ps) ≡ length (pairs_from k ps)
length-links ranks f k [] = refl
length-links ranks f k (p ∷ ps) =
    let ih = length-links ranks f (suc k) ps in
    elim (cases_Bool (nat_lt k p)) [ inl t ↦ rw t (ap suc ih) | inr t ↦ rw t ih ]

-- the text of a net has no more bytes than may be read
pub net_text-few : (g : Graph) → IsTabled g.free g.nodes g.partners → length g.nodes < 2 ^ 31 →
    HasIndexes g.nodes → length (net_of g).nodes ≤ 200000 → g.free ≤ 1000000 → length (net_text g) ≤ 33554432
net_text-few g t born ix few ff =
    let ls = links_at (ranks_from 0 g.nodes) g.free 0 g.partners in
    let bytes = text-few (net_text g) g.free (live_kinds g.nodes) ls (spelled-live g t born ix few ff) in
    omega (
      arith,
      bytes,
      length-links (ranks_from 0 g.nodes) g.free 0 g.partners,
      links-few g t,
      few,
      length-live 0 g.nodes,
      ff,
    )
