-- The parts of a term are those of a net: nothing is refused but for want of memory.
use Rattle.std.proofs.Common.{◌≡◌, ◌≢◌, ℕ, zero, suc, ◌<◌, ◌≤◌, ◌+◌, List, [], ◌∷◌, length, true}
use Rattle.std.proofs.Common.{false, Bool, inl, inr, refl, ap, arith, subst, eq-eqb}
use Rattle.std.proofs.lemmas.Bool.Decides.{nat_tests}
use Rattle.ol_term.specs.declared.translations.Translation.{Translation}
use Rattle.ol_term.specs.Trees.{Tree}
use Rattle.ol_net.specs.declared.parts.Kind.{Kind}
use Rattle.ol_net.specs.declared.parts.Port.{Port}
use Rattle.ol_net.specs.declared.parts.Port.TheVariants.{Free, Of}
use Rattle.ol_net.specs.declared.parts.BuildFault.{BuildFault}
use Rattle.ol_net.specs.declared.parts.BuildFault.TheVariants.{BadIndex, BadPort, Twice, Loose, NoMemory}
use Rattle.ol_net.specs.Graph.{has_port}
use Rattle.ol_net.specs.Build.{link_at, HasEnd, FaultIs, build_top}
use Rattle.ol_net.specs.Nets.{NamedNet, SameNet}
use Rattle.ol_net.specs.Numbered.{net_of_parts, all_live}
use Rattle.ol_translate.specs.Translation.{nodes_of, links_of, translation_of}
use Rattle.ol_translate.specs.Names.{HasNames}
use Rattle.ol_translate.proofs.Counts.{port_eq, hit, uses}
use Rattle.ol_translate.proofs.Ports.{bit, each_port_once}
use Rattle.ol_translate.proofs.Indexes.{good_indexes}

-- ---- a port and the links that it stands in

pub hit_itself : (p : Port) → hit p p ≡ 1
unfolding hit
hit_itself (Free m) = rw (eq-eqb m m refl) refl
hit_itself (Of k s) = rw (eq-eqb k.0 k.0 refl, eq-eqb s s refl) refl

pub port_from_eq : (p q : Port) → port_eq p q ≡ true → q ≡ p
port_from_eq (Free m) (Free n) e = let same : n ≡ m = grind (arith, nat_tests) in ap (λ k. Free k) same
port_from_eq (Free m) (Of l t) e = absurd (cc)
port_from_eq (Of k s) (Free n) e = absurd (cc)
port_from_eq (Of k s) (Of l t) e = grind (arith, nat_tests)

no_hit : (p q : Port) → q ≢ p → hit p q ≡ 0
unfolding hit
no_hit p q ne = elim (port_eq p q) as (λ b. port_eq p q ≡ b → bit b ≡ 0) [
  | true ↦ (λ t. absurd (ne (port_from_eq p q t)))
  | false ↦ (λ t. refl)
] refl

-- how often p is an end of the link
abbrev ends : Port → Port × Port → ℕ
ends p l = hit p l.0 + hit p l.1

ends_of_end : (p : Port) (l : Port × Port) → HasEnd l p → 1 ≤ ends p l
ends_of_end p l (inl e) = rw e (omega (arith, hit_itself p))
ends_of_end p l (inr e) = rw e (omega (arith, hit_itself p))

uses-at : (p : Port) (links : List (Port × Port)) (j : ℕ) → j < length links → ends p (link_at links j) ≤ uses p links
uses-at p [] j h = absurd (omega arith)
uses-at p (l ∷ links) zero h = omega arith
uses-at p (l ∷ links) (suc j) h = omega (arith, uses-at p links j (omega arith))

uses-two : (p : Port) (links : List (Port × Port)) (i j : ℕ) → i < j → j < length links →
    ends p (link_at links i) + ends p (link_at links j) ≤ uses p links
uses-two p [] i j o h = absurd (omega arith)
uses-two p (l ∷ links) i zero o h = absurd (omega arith)
uses-two p (l ∷ links) zero (suc j) o h = omega (arith, uses-at p links j (omega arith))
uses-two p (l ∷ links) (suc i) (suc j) o h = omega (arith, uses-two p links i j (omega arith) (omega arith))

uses-none : (p : Port) (links : List (Port × Port)) →
    ((j : ℕ) → j < length links → HasEnd (link_at links j) p → ⊥) → uses p links ≡ 0
uses-none p [] h = refl
uses-none p (l ∷ links) h =
    omega (
      arith,
      no_hit p l.0 (λ e. h 0 (omega arith) (inl e)),
      no_hit p l.1 (λ e. h 0 (omega arith) (inr e)),
      uses-none p links (λ j low e. h (suc j) (omega arith) e),
    )

-- ---- a net's parts

-- each port that there is stands in one link
abbrev pub EachOnce : ℕ → List (Kind × ℕ) → List (Port × Port) → Type 0
EachOnce free nodes links = (p : Port) → uses p links ≡ bit (has_port free (all_live nodes) p)

bit-le : (b : Bool) → bit b ≤ 1
bit-le true = omega arith
bit-le false = omega arith

used_exists : (free : ℕ) (nodes : List (Kind × ℕ)) (links : List (Port × Port)) (p : Port) (j : ℕ) →
    EachOnce free nodes links → j < length links
    → HasEnd (link_at links j) p → has_port free (all_live nodes) p ≡ false → ⊥
used_exists free nodes links p j once h e gone =
    let count = rw gone at (once p) in
    absurd (omega (arith, count, uses-at p links j h, ends_of_end p (link_at links j) e))

used_once : (free : ℕ) (nodes : List (Kind × ℕ)) (links : List (Port × Port)) (p : Port) (i j : ℕ) →
    EachOnce free nodes links → i < j → j < length links
    → HasEnd (link_at links i) p → HasEnd (link_at links j) p → ⊥
used_once free nodes links p i j once o h e f =
    absurd (omega (
      arith,
      once p,
      bit-le (has_port free (all_live nodes) p),
      uses-two p links i j o h,
      ends_of_end p (link_at links i) e,
      ends_of_end p (link_at links j) f,
    ))

used_apart : (free : ℕ) (nodes : List (Kind × ℕ)) (links : List (Port × Port)) (j : ℕ) →
    EachOnce free nodes links → j < length links
    → (link_at links j).0 ≡ (link_at links j).1 → ⊥
used_apart free nodes links j once h e =
    let p = (link_at links j).0 in
    let second : hit p (link_at links j).1 ≡ 1 = rw (← e) (hit_itself (link_at links j).0) in
    absurd (omega (
      arith,
      once (link_at links j).0,
      bit-le (has_port free (all_live nodes) (link_at links j).0),
      uses-at (link_at links j).0 links j h,
      hit_itself (link_at links j).0,
      second,
    ))

used_somewhere : (free : ℕ) (nodes : List (Kind × ℕ)) (links : List (Port × Port)) (p : Port) →
    EachOnce free nodes links
    → has_port free (all_live nodes) p ≡ true → ((j : ℕ) → j < length links → HasEnd (link_at links j) p → ⊥) → ⊥
used_somewhere free nodes links p once there loose =
    let count = rw there at (once p) in
    absurd (omega (arith, count, uses-none p links loose))

only_memory : (w : Translation) (t : Tree) (names : ℕ) (fault : BuildFault) → HasNames t names →
    length (nodes_of w t) ≤ 200000
    → FaultIs build_top (1 + names) (nodes_of w t) (links_of w t) fault → fault ≢ NoMemory → ⊥
only_memory w t names (BadIndex n) h few is ne = good_indexes w t few n is.0
only_memory w t names (BadPort j) h few is ne = elim (is.1.0.1) [
  | inl gone ↦ used_exists (1 + names) (nodes_of w t) (links_of w t) (link_at (links_of w t) j).0 j
      (each_port_once w t names h) is.1.0.0 (inl refl) gone
  | inr gone ↦ used_exists (1 + names) (nodes_of w t) (links_of w t) (link_at (links_of w t) j).1 j
      (each_port_once w t names h) is.1.0.0 (inr refl) gone
]
only_memory w t names (Twice j) h few is ne = elim (is.2.0.1) [
  | inl same ↦ used_apart (1 + names) (nodes_of w t) (links_of w t) j (each_port_once w t names h) is.2.0.0 same
  | inr again ↦ used_once (1 + names) (nodes_of w t) (links_of w t) again.1 again.0 j
      (each_port_once w t names h) again.2 is.2.0.0 again.3 again.4
]
only_memory w t names (Loose p) h few is ne = used_somewhere (1 + names) (nodes_of w t)
    (links_of w t) p (each_port_once w t names h) is.3.0.0 is.3.0.1
only_memory w t names NoMemory h few is ne = ne refl

-- the same of parts that were laid down
pub never_refused : (w : Translation) (t : Tree) (names free : ℕ) (nodes : List (Kind × ℕ))
    (links : List (Port × Port)) (fault : BuildFault) → HasNames t names
    → free ≡ 1 + names → nodes ≡ nodes_of w t → links ≡ links_of w t → length nodes ≤ 200000 →
    FaultIs build_top free nodes links fault → fault ≢ NoMemory → ⊥
never_refused w t names free nodes links fault h f n l few is ne =
    let few' : length (nodes_of w t) ≤ 200000 = omega (arith, ap length n) in
    let F : ℕ → Type 0 = λ m. FaultIs build_top m nodes links fault in
    let N : List (Kind × ℕ) → Type 0 = λ m. FaultIs build_top (1 + names) m links fault in
    let L : List (Port × Port) → Type 0 = λ m. FaultIs build_top (1 + names) (nodes_of w t) m fault in
    only_memory w t names fault h few' (subst L l (subst N n (subst F f is))) ne

-- a net of the parts that were laid down is the translation
pub same_translation : (w : Translation) (t : Tree) (names free : ℕ) (nodes : List (Kind × ℕ))
    (links : List (Port × Port)) (N : NamedNet ℕ)
    → free ≡ 1 + names → nodes ≡ nodes_of w t → links ≡ links_of w t →
    SameNet N (net_of_parts free nodes links) → SameNet N (translation_of w t names)
same_translation w t names free nodes links N f n l same =
    let F : ℕ → Type 0 = λ m. SameNet N (net_of_parts m nodes links) in
    let M : List (Kind × ℕ) → Type 0 = λ m. SameNet N (net_of_parts (1 + names) m links) in
    let L : List (Port × Port) → Type 0 = λ m. SameNet N (net_of_parts (1 + names) (nodes_of w t) m) in
    subst L l (subst M n (subst F f same))
