-- A loop can start where the count of applications and abstractions crossed upwards, less those crossed downwards, is
-- least. From there on no later count is less.
-- Used in Circling.
use Rattle.std.proofs.Common.{◌≡◌, ℕ, zero, suc, ◌+◌, ◌-◌, ◌<◌, ◌≤◌, ◌⊎◌, inl, inr, List, [], ◌∷◌, ◌++◌, refl, arith}
use Rattle.std.proofs.lemmas.Bool.{cases_lt}
use Rattle.ol_context.specs.Contexts.{Context, up}
use Rattle.ol_law_optimality.specs.Routes.{Crossing, rise, fall}
use Rattle.ol_net.specs.Nets.{NamedNet, NamedPort}
use Rattle.ol_law_completeness.proofs.Lines.{Line, stop, rises, falls, Leads, climbs, climbs_both, append, leads_on, marks, ups, downs, Loop}

-- how much more has to be there at first, so that the count is never below nothing
abbrev pub need : {A : Type 0} {N : NamedNet A} {p q : NamedPort A} {w : List (Crossing A)} → Line N p w q → ℕ
need stop = 0
need (rises k i l h b r) = need r - marks k
need (falls k i l h b r) = marks k + need r

module _ {A : Type 0} (N : NamedNet A) where
  record Split {p q : NamedPort A} {w : List (Crossing A)} (r : Line N p w q) : Type 0 where
    port : NamedPort A
    row1 : List (Crossing A)
    row2 : List (Crossing A)
    first : Line N p row1 port
    second : Line N port row2 q
    leads : (c e : Context) → Leads r c e → (d : Context) × Leads first c d × Leads second d e
    long : climbs w ≡ climbs row1 + climbs row2
    all_ups : ups r ≡ ups first + ups second
    all_downs : downs r ≡ downs first + downs second
    second_need : need second ≡ 0
    least : ups first + need r ≡ downs first
    first_need : need first ≤ need r

  at_once : {p q : NamedPort A} {w : List (Crossing A)} (r : Line N p w q) → need r ≡ 0 → Split r
  at_once {p} {w = w} r h = record {
    port = p;
    row1 = [];
    row2 = w;
    first = stop;
    second = r;
    leads = λ c e t. (c, refl, t);
    long = omega arith;
    all_ups = omega arith;
    all_downs = omega arith;
    second_need = h;
    least = omega (arith, h);
    first_need = omega arith;
  }

  split : {p q : NamedPort A} {w : List (Crossing A)} (r : Line N p w q) → Split r
  split stop = at_once stop refl
  split (falls {x = x} {s = s} k i l h b r) =
      let S = split r in
      let long = S.long in
      let u = S.all_ups in
      let d = S.all_downs in
      let least = S.least in
      let n = S.first_need in
      record {
        port = S.port;
        row1 = fall x s ∷ S.row1;
        row2 = S.row2;
        first = falls k i l h b S.first;
        second = S.second;
        leads = λ c e t. (let z = S.leads t.0 e t.2 in (z.0, (t.0, t.1, z.1), z.2));
        long = omega (arith, long);
        all_ups = u;
        all_downs = omega (arith, d);
        second_need = S.second_need;
        least = omega (arith, least);
        first_need = omega (arith, n);
      }
  split {p} {q} (rises {x = x} {s = s} {w = w} k i l h b r) = by (cases_lt (need r) (marks k)) (split r)
    where
      by : (need r < marks k) ⊎ (marks k ≤ need r) → Split r → Split (rises {s = s} k i l h b r)
      by (inl g) S = at_once (rises {s = s} k i l h b r) (omega (arith, g))
      by (inr g) S =
          let long = S.long in
          let u = S.all_ups in
          let d = S.all_downs in
          let least = S.least in
          let n = S.first_need in
          record {
            port = S.port;
            row1 = rise x s ∷ S.row1;
            row2 = S.row2;
            first = rises k i l h b S.first;
            second = S.second;
            leads = λ c e t. S.leads (up k i s c) e t;
            long = omega (arith, long);
            all_ups = omega (arith, u);
            all_downs = d;
            second_need = S.second_need;
            least = omega (arith, least, g);
            first_need = omega (arith, n);
          }

  need_both : {p q r : NamedPort A} {w v : List (Crossing A)} (x : Line N p w q) (y : Line N q v r) → need x ≡ 0 →
      need y + downs x ≤ ups x → need (append x y) ≡ 0
  need_both x y e h = let g = general x y 0 (omega (arith, e)) (omega (arith, h)) in omega (arith, g)
    where
      general : {p q r : NamedPort A} {w v : List (Crossing A)} (x : Line N p w q) (y : Line N q v r) (a : ℕ) → need x ≤ a →
          need y + downs x ≤ a + ups x → need (append x y) ≤ a
      general stop y a e h = omega (arith, h)
      general (rises k i l n b x) y a e h = let g = general x y (a + marks k) (omega (arith, e)) (omega (arith, h)) in omega (arith, g)
      general (falls k i l n b x) y a e h = let g = general x y (a - marks k) (omega (arith, e)) (omega (arith, e, h)) in omega (arith, g, e)

  -- round after round, with a context for each
  pub record Rounds : Type 0 where
    pub port : NamedPort A
    pub row : List (Crossing A)
    pub line : Line N port row port
    pub some : 1 ≤ climbs row
    pub context : ℕ → Context
    pub leads : (n : ℕ) → Leads line (context n) (context (suc n))
    pub never : need line ≡ 0

  abbrev times : {B : Type 0} → (B → B) → ℕ → B → B
  times f zero c = c
  times f (suc n) c = f (times f n c)

  pub rounds : Loop N → Context → Rounds
  rounds L c =
      let S = split L.line in
      let along : (n : ℕ) → (d : Context) × Leads S.first (L.at (times L.change n c)) d
      × Leads S.second d (L.at (L.change (times L.change n c))) =
      λ n. S.leads (L.at (times L.change n c)) (L.at (L.change (times L.change n c))) (L.leads (times L.change n c)) in
      let e = climbs_both S.row2 S.row1 in
      let long = S.long in
      let some = L.some in
      let a = S.all_ups in
      let b = S.all_downs in
      let d = S.least in
      let f = S.first_need in
      let g = L.balance in
      record {
        port = S.port;
        row = S.row2 ++ S.row1;
        line = append S.second S.first;
        some = omega (arith, e, long, some);
        context = λ n. (along n).0;
        leads = λ n. leads_on S.second S.first (along n).0 (L.at (times L.change (suc n) c)) (along (suc n)).0 (along n).2 (along (suc n)).1;
        never = need_both S.second S.first S.second_need (omega (arith, a, b, d, f, g));
      }
