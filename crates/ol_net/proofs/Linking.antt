-- Links joined one after another
use Rattle.std.proofs.Common.{◌≡◌, ◌≢◌, ℕ, ◌+◌, ◌<◌, true, false, cond, List, [], ◌∷◌, ◌++◌, length, get_or, take, refl}
use Rattle.std.proofs.Common.{sym, ap, ◌∙◌, inl, inr, arith, Option, Some, None, zero, suc, count_by, is_some}
use Rattle.std.proofs.lemmas.Bool.{cases_Bool, false≢true}
use Rattle.std.proofs.lemmas.Bool.Decides.{nat_tests}
use Rattle.ol_net.specs.declared.parts.Kind.{Kind}
use Rattle.ol_net.specs.declared.parts.Port.{Port}
use Rattle.ol_net.specs.Graph.{IsTabled, has_port, place, port_at}
use Rattle.ol_net.specs.Pairing.{other}
use Rattle.ol_net.specs.Linking.{partner_among, linked, can_link}
use Rattle.ol_net.specs.Numbered.{nodes_from, all_live}
use Rattle.ol_net.specs.Build.{link_at, NoneOf, BadPortAt}
use Rattle.ol_net.specs.Tabling.{places, is_apart, LinkedUp, MeetsAt, AloneAt, AreTables}
use Rattle.std.proofs.lemmas.List.Sums.{sum_by-cons}
use Rattle.ol_net.proofs.Places.{place-within, port_at-place, port_at-within}
use Rattle.std.proofs.lemmas.List.{length-map, take_more}
use Rattle.ol_net.proofs.Tables.{CanLink, CanLink-from_test, length-linked, other-linked}
use Rattle.ol_net.proofs.Tables.{IsPaired-linked, partner_among-push}

pub places-at : (free : ℕ) (links : List (Port × Port)) (j : ℕ) →
    get_or (places free links) j (0, 0) ≡ (place free (link_at links j).0, place free (link_at links j).1)
places-at free [] j = refl
places-at free (l ∷ links) zero = refl
places-at free (l ∷ links) (suc j) = places-at free links j

pub LinkedUp-more : (free : ℕ) (nodes : List (Option (Kind × ℕ))) (es : List (ℕ × ℕ)) (xs : List ℕ) (a b : ℕ) →
    LinkedUp free nodes es xs → CanLink xs a b → has_port free nodes (port_at free a) ≡ true →
    has_port free nodes (port_at free b) ≡ true →
    LinkedUp free nodes (es ++ (a, b) ∷ []) (linked xs a b)
LinkedUp-more free nodes es xs a b l c pa pb = record {
  size = length-linked xs a b ∙ l.size;
  paired = IsPaired-linked xs a b l.paired c;
  same = λ k.
      let push = partner_among-push es a b k (sym (l.same a) ∙ c.first_alone) (sym (l.same b) ∙ c.second_alone) in
      let e = other-linked xs a b k c.first_in c.second_in in
      let s = l.same k in
      let ne = c.two in
      grind (arith, nat_tests);
  elsewhere = λ k none.
      let ka : a ≢ k = λ e. absurd (false≢true
      (sym none ∙ ap (λ j. has_port free nodes (port_at free j)) (sym e) ∙ pa)) in
      let kb : b ≢ k = λ e. absurd (false≢true
      (sym none ∙ ap (λ j. has_port free nodes (port_at free j)) (sym e) ∙ pb)) in
      let e = other-linked xs a b k c.first_in c.second_in in
      let s = l.elsewhere k none in
      grind (arith, nat_tests);
}

-- the test that the code makes is the one over the links so far
pub can_link-is : (es : List (ℕ × ℕ)) (xs : List ℕ) (a b : ℕ) → other xs a ≡ partner_among es a →
    other xs b ≡ partner_among es b → can_link xs a b ≡ is_apart es (a, b)
can_link-is es xs a b ha hb = rw (ha, hb)

-- one turn of the loop over the links
pub record Turn (free : ℕ) (nodes : List (Option (Kind × ℕ))) (links : List (Port × Port))
    (xs : List ℕ) (i a b : ℕ) : Type 0 where
  pub first_in : a < length xs
  pub second_in : b < length xs
  pub first_port : has_port free nodes (port_at free a) ≡ true
  pub second_port : has_port free nodes (port_at free b) ≡ true
  pub entry : get_or (places free links) i (0, 0) ≡ (a, b)
  pub within : i < length (places free links)
  pub test : can_link xs a b ≡ is_apart (take i (places free links)) (get_or (places free links) i (0, 0))

pub good_port : (free : ℕ) (nodes : List (Option (Kind × ℕ))) (p : Port) →
    (has_port free nodes p ≡ false → ⊥) → has_port free nodes p ≡ true
good_port free nodes p h = elim (cases_Bool (has_port free nodes p)) [ inl has ↦ has | inr lacks ↦ absurd (h lacks) ]

pub turn : (free : ℕ) (nodes : List (Option (Kind × ℕ))) (links : List (Port × Port)) (xs : List ℕ) (i a b : ℕ) →
    i < length links → NoneOf (BadPortAt free nodes links) → LinkedUp free nodes (take i (places free links)) xs →
    a ≡ place free (link_at links i).0 → b ≡ place free (link_at links i).1 → Turn free nodes links xs i a b
turn free nodes links xs i a b lt good l ea eb =
    let p = (link_at links i).0 in
    let q = (link_at links i).1 in
    let hp : has_port free nodes p ≡ true = good_port free nodes p (λ lacks. good i (lt, inl lacks)) in
    let hq : has_port free nodes q ≡ true = good_port free nodes q (λ lacks. good i (lt, inr lacks)) in
    let la : a < length xs = omega (arith, place-within free nodes p hp, l.size) in
    let lb : b < length xs = omega (arith, place-within free nodes q hq, l.size) in
    let entry : get_or (places free links) i (0, 0) ≡ (a, b) = rw (ea, eb) (places-at free links i) in
    record {
      first_in = la;
      second_in = lb;
      first_port = rw (ea, port_at-place free nodes p hp) hp;
      second_port = rw (eb, port_at-place free nodes q hq) hq;
      entry = entry;
      within = rw length-map lt;
      test = rw entry (can_link-is (take i (places free links)) xs a b (l.same a) (l.same b));
    }

pub not_meets_at : (free : ℕ) (nodes : List (Option (Kind × ℕ))) (links : List (Port × Port))
    (xs : List ℕ) (i a b : ℕ) →
    Turn free nodes links xs i a b → can_link xs a b ≡ true → MeetsAt (places free links) i → ⊥
not_meets_at free nodes links xs i a b t test h = false≢true (sym h.1 ∙ sym t.test ∙ test)

pub LinkedUp-step : (free : ℕ) (nodes : List (Option (Kind × ℕ))) (links : List (Port × Port))
    (xs ys : List ℕ) (i a b : ℕ) →
    Turn free nodes links xs i a b → LinkedUp free nodes (take i (places free links)) xs →
    can_link xs a b ≡ true → ys ≡ linked xs a b →
    LinkedUp free nodes (take (i + 1) (places free links)) ys
LinkedUp-step free nodes links xs ys i a b t l test is =
    let more = LinkedUp-more free nodes (take i (places free links)) xs a b l
    (CanLink-from_test xs a b t.first_in t.second_in test) t.first_port t.second_port in
    rw (take_more (places free links) i (0, 0) t.within, t.entry, is) more

pub length-places : (free : ℕ) (links : List (Port × Port)) → length (places free links) ≡ length links
length-places free links = length-map links (λ l. (place free l.0, place free l.1))

pub IsTabled-from_links : (free : ℕ) (nodes : List (Option (Kind × ℕ))) (es : List (ℕ × ℕ)) (xs : List ℕ) →
    LinkedUp free nodes es xs → NoneOf (AloneAt free nodes xs) → IsTabled free nodes xs
IsTabled-from_links free nodes es xs l none = record {
  size = l.size;
  paired = l.paired;
  ports = λ k. elim (cases_Bool (has_port free nodes (port_at free k))) [
    | inl has ↦
        let n : other xs k ≢ k = λ e. none k (port_at-within free nodes k has, has, e) in
        grind (arith, nat_tests)
    | inr lacks ↦ let e = l.elsewhere k lacks in grind (arith, nat_tests)
  ];
}

pub length-all_live : (nodes : List (Kind × ℕ)) → length (all_live nodes) ≡ length nodes
length-all_live nodes = length-map nodes (λ k. Some k)

pub count_by-all_live : (nodes : List (Kind × ℕ)) → count_by is_some (all_live nodes) ≡ length nodes
count_by-all_live [] = refl
count_by-all_live (k ∷ nodes) =
    let e : count_by is_some (Some k ∷ all_live nodes) ≡ 1 + count_by is_some
    (all_live nodes) = sum_by-cons (λ (x : Option (Kind × ℕ)). cond (is_some x) 1 0) (Some k) (all_live nodes) in
    omega (arith, e, count_by-all_live nodes)

pub IsTabled-from_tables : (top free : ℕ) (nodes : List (Kind × ℕ)) (links : List (Port × Port))
    (live : List (Option (Kind × ℕ))) (xs : List ℕ) →
    AreTables top free nodes links live xs →
    (count_by is_some live ≡ length live) × (length live ≡ length nodes) × IsTabled free live xs
IsTabled-from_tables top free nodes links live xs t =
    rw t.same_nodes (
      count_by-all_live nodes ∙ sym (length-all_live nodes),
      length-all_live nodes,
      IsTabled-from_links free (all_live nodes) (places free links) xs t.table.linked t.table.none_alone,
    )

-- the live nodes are the nodes of the net
pub length-nodes_from : (n : ℕ) (nodes : List (Option (Kind × ℕ))) →
    count_by is_some nodes ≡ length (nodes_from n nodes)
length-nodes_from n [] = refl
length-nodes_from n (None ∷ nodes) =
    let e : count_by is_some (None ∷ nodes) ≡ 0 + count_by is_some nodes = sum_by-cons
    (λ (x : Option (Kind × ℕ)). cond (is_some x) 1 0) None nodes in
    omega (arith, e, length-nodes_from (suc n) nodes)
length-nodes_from n (Some k ∷ nodes) =
    let e : count_by is_some (Some k ∷ nodes) ≡ 1 + count_by is_some nodes = sum_by-cons
    (λ (x : Option (Kind × ℕ)). cond (is_some x) 1 0) (Some k) nodes in
    omega (arith, e, length-nodes_from (suc n) nodes)
