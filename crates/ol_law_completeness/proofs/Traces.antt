-- A labelled term whose links are links of several links of a net, and that what is left of its redexes is
-- such a term again.
-- Used in First and OnlyStrong.
use Rattle.std.proofs.Common.{◌≡◌, ℕ, zero, suc, ◌≤◌, List, [], ◌∷◌, ◌++◌, length, length-append, refl, sym, ◌∙◌}
use Rattle.std.proofs.Common.{subst, arith}
use Rattle.ol_context.specs.Contexts.{Level, o, star, Context, cons}
use Rattle.ol_law_confluence.proofs.Substitutions.{up_ren}
use Rattle.ol_law_optimality.specs.Words.{turned}
use Rattle.ol_law_optimality.proofs.Putting.{before_joined, ren, before_ren, up, inst, point, substituted_inst}
use Rattle.ol_law_optimality.specs.Reductions.{reduct}
use Rattle.ol_law_optimality.specs.Labels.{Label, none, over, under, joined, Labelled, var, free, lam, app, before}
use Rattle.ol_law_optimality.specs.Labels.{substituted}
use Rattle.ol_law_optimality.specs.Redexes.{put}
use Rattle.ol_law_optimality.specs.Routes.{Crossing, rise, fall}
use Rattle.ol_net.specs.Nets.{NamedNet, NamedPort, slot, HasNode, Linked, IsNet}
use Rattle.ol_net.specs.declared.parts.Kind.{Kind}
use Rattle.ol_net.specs.declared.parts.Kind.TheVariants as kind
use Rattle.ol_rules.proofs.FreshPairs.{linked_sym}
use Rattle.ol_rules.specs.declared.journal.NodeName.{NodeName}
use Rattle.ol_law_completeness.proofs.Walls.{size, size_joined, Weak, at_redex, at_function}
use Rattle.ol_law_completeness.proofs.Links.{length_turned, Goes, goes_on, goes_at, goes_to, upwards, downwards, back, Link, prefixed}

-- what is asked of a variable's occurrence, by the end of its link
abbrev pub Env : Type 1
Env = ℕ → NamedPort NodeName → (Level → Context → Context) → Type 0

abbrev pub pushed : (NamedPort NodeName → (Level → Context → Context) → Type 0) → Env → Env
pushed E env zero = E
pushed E env (suc y) = env y

-- the link ends at slot s of node x
pub record AtEnd (N : NamedNet NodeName) (K : Kind) (s : ℕ) (x : NodeName) (n : ℕ) (L : List Level) (l : Link N) : Type 0 where
  pub node : HasNode N x K n
  pub long : length L ≡ n
  pub at : l.last_mate ≡ slot x s
  pub to : (v : Level) (c : Context) → l.to v c ≡ put L (cons v c)

-- the link begins at this port
pub record Starts (N : NamedNet NodeName) (p : NamedPort NodeName) (F : Level → Context → Context) (l : Link N) : Type 0 where
  pub port : l.port ≡ p
  pub from : (v : Level) (c : Context) → l.from v c ≡ F v c

-- from an occurrence of its variable to the root of abstraction x
abbrev pub ToBinder : NamedNet NodeName → NodeName → List Level → NamedPort NodeName → (Level → Context → Context) → Type 0
ToBinder N x L p to = (a : Level) × (w : List (Crossing NodeName)) × ((v : Level) (c : Context) →
    Goes N p (to v c) w (slot x 0) (put L (cons (star a) (cons v c))))

abbrev pub own : List Level → Level → Context → Context
own L v c = put L (cons v c)

abbrev pub boxed : List Level → Level → Level → Context → Context
boxed L u v c = put L (cons u (cons v c))

-- The links of the term's parts are links of the net, and have no fewer crossings than their labels have words.
abbrev pub Trace : (N : NamedNet NodeName) → Labelled → Env → Link N → Type 0
Trace N (var y w) env l = (size w ≤ length l.row) × env y l.last_port l.to
Trace N (free f w) env l = size w ≤ length l.row
Trace N (lam b w) env l =
    (size w ≤ length l.row) × (x : NodeName) × (n : ℕ) × (L : List Level) × AtEnd N kind.Lam 0 x n L l
    × (m : Link N) × Starts N (slot x 1) (own L) m × Trace N b (pushed (ToBinder N x L) env) m
Trace N (app f a w) env l =
    (size w ≤ length l.row) × (x : NodeName) × (n : ℕ) × (L : List Level) × AtEnd N kind.App 1 x n L l
    × ((m : Link N) × Starts N (slot x 0) (own L) m × Trace N f env m)
    × ((u : Level) → (q : Link N) × Starts N (slot x 2) (boxed L u) q × Trace N a env q)

-- a link that begins as another one, and has this trace
pub record Kept (N : NamedNet NodeName) (t : Labelled) (env : Env) (l : Link N) : Type 0 where
  pub link : Link N
  pub port : link.port ≡ l.port
  pub from : (v : Level) (c : Context) → link.from v c ≡ l.from v c
  pub trace : Trace N t env link

module _ (N : NamedNet NodeName) where
  starts_kept : {p : NamedPort NodeName} {F : Level → Context → Context} {l : Link N} {t : Labelled} {env : Env} →
      Starts N p F l → (k : Kept N t env l) → Starts N p F k.link
  starts_kept s k = record { port = k.port ∙ s.port; from = λ v c. k.from v c ∙ s.from v c }

  -- a longer link has room for more of a label
  longer : (x : Label) (t : Labelled) (env : Env) (p mate : NamedPort NodeName) (b : Linked N p mate) (F : Level → Context → Context)
      (w : List (Crossing NodeName)) (l : Link N) (g : (v : Level) (c : Context) → Goes N p (F v c) w l.port (l.from v c)) →
      size x ≤ length w → Trace N t env l → Trace N (before x t) env (prefixed p mate b F w l g)
  longer x (var y v) env p mate b F w l g h t =
      let e = size_joined x v in let f = length-append w l.row in (omega (arith, e, f, h, t.0), t.1)
  longer x (free y v) env p mate b F w l g h t =
      let e = size_joined x v in let f = length-append w l.row in omega (arith, e, f, h, t)
  longer x (lam m v) env p mate b F w l g h (t, y, n, L, r, m', s, k) =
      let e = size_joined x v in let f = length-append w l.row in
      (omega (arith, e, f, h, t), y, n, L, record { node = r.node; long = r.long; at = r.at; to = r.to }, m', s, k)
  longer x (app m a v) env p mate b F w l g h (t, y, n, L, r, m', a') =
      let e = size_joined x v in let f = length-append w l.row in
      (omega (arith, e, f, h, t), y, n, L, record { node = r.node; long = r.long; at = r.at; to = r.to }, m', a')

  -- ---- other variables

  renamed : (ξ : ℕ → ℕ) (t : Labelled) (env env' : Env) → ((y : ℕ) (p : NamedPort NodeName) (F : Level → Context → Context) →
      env y p F → env' (ξ y) p F) → (l : Link N) → Trace N t env l → Trace N (ren ξ t) env' l
  renamed ξ (var y w) env env' h l t = (t.0, h y l.last_port l.to t.1)
  renamed ξ (free f w) env env' h l t = t
  renamed ξ (lam b w) env env' h l (t, x, n, L, r, m, s, k) =
      (t, x, n, L, r, m, s, renamed (up_ren ξ) b (pushed (ToBinder N x L) env) (pushed (ToBinder N x L) env') under_it m k)
    where
      under_it : (y : ℕ) (p : NamedPort NodeName) (F : Level → Context → Context) → pushed (ToBinder N x L) env y p F →
          pushed (ToBinder N x L) env' (up_ren ξ y) p F
      under_it zero p F e = e
      under_it (suc y) p F e = h y p F e
  renamed ξ (app f a w) env env' h l (t, x, n, L, r, (m, s, k), q) =
      (t, x, n, L, r, (m, s, renamed ξ f env env' h m k), λ u. (let z = q u in (z.0, z.1, renamed ξ a env env' h z.0 z.2)))

  -- ---- terms for variables

  abbrev Puts : (ℕ → Labelled) → Env → Env → Type 0
  Puts σ env env' = (y : ℕ) (q : Link N) (w : Label) → size w ≤ length q.row → env y q.last_port q.to →
      Kept N (before w (σ y)) env' q

  same_link : {t : Labelled} {env : Env} {l : Link N} → Trace N t env l → Kept N t env l
  same_link {l = l} t = record { link = l; port = refl; from = λ v c. refl; trace = t }

  as_term : {t u : Labelled} {env : Env} {l : Link N} → t ≡ u → Kept N t env l → Kept N u env l
  as_term {env = env} {l = l} e k = subst (λ t. Kept N t env l) e k

  kept_renamed : (ξ : ℕ → ℕ) (t : Labelled) (env env' : Env) → ((y : ℕ) (p : NamedPort NodeName) (F : Level → Context → Context) →
      env y p F → env' (ξ y) p F) → {l : Link N} → Kept N t env l → Kept N (ren ξ t) env' l
  kept_renamed ξ t env env' h k = record {
    link = k.link;
    port = k.port;
    from = k.from;
    trace = renamed ξ t env env' h k.link k.trace;
  }

  puts_up : (σ : ℕ → Labelled) (env env' : Env) (E : NamedPort NodeName → (Level → Context → Context) → Type 0) →
      Puts σ env env' → Puts (up σ) (pushed E env) (pushed E env')
  puts_up σ env env' E g zero q w h e =
      let s = size_joined w none in same_link {t = var 0 (joined w none)} {env = pushed E env'} (omega (arith, s, h), e)
  puts_up σ env env' E g (suc y) q w h e =
      as_term (before_ren w suc (σ y)) (kept_renamed suc (before w (σ y)) env' (pushed E env') (λ y p F e. e) (g y q w h e))

  pub put_in : (σ : ℕ → Labelled) (t : Labelled) (env env' : Env) → Puts σ env env' → (l : Link N) → Trace N t env l →
      Kept N (inst σ t) env' l
  put_in σ (var y w) env env' g l t = g y l w t.0 t.1
  put_in σ (free f w) env env' g l t = same_link {t = free f w} {env = env'} t
  put_in σ (lam b w) env env' g l (t, x, n, L, r, m, s, k) =
      let z = put_in (up σ) b (pushed (ToBinder N x L) env) (pushed (ToBinder N x L) env') (puts_up σ env env' (ToBinder N x L) g) m k in
      same_link {t = lam (inst (up σ) b) w} {env = env'} (t, x, n, L, r, z.link, starts_kept s z, z.trace)
  put_in σ (app f a w) env env' g l (t, x, n, L, r, (m, s, k), q) =
      let z = put_in σ f env env' g m k in
      same_link {t = app (inst σ f) (inst σ a) w} {env = env'} (
        t,
        x,
        n,
        L,
        r,
        (z.link, starts_kept s z, z.trace),
        λ u. (let y = q u in let v = put_in σ a env env' g y.0 y.2 in (v.link, starts_kept y.1 v, v.trace)),
      )

  -- ---- a redex

  module _ (net : IsNet N) (b c : Labelled) (v w : Label) (env : Env) (l : Link N)
      (x : NodeName) (n : ℕ) (L : List Level) (r : AtEnd N kind.App 1 x n L l)
      (m : Link N) (s : Starts N (slot x 0) (own L) m) (t : size v ≤ length m.row)
      (x' : NodeName) (n' : ℕ) (L' : List Level) (r' : AtEnd N kind.Lam 0 x' n' L' m)
      (a : (u : Level) → (q : Link N) × Starts N (slot x 2) (boxed L u) q × Trace N c env q) where
    to_lam : Linked N m.last_port (slot x' 0)
    to_lam = subst (λ p. Linked N m.last_port p) r'.at m.ends

    to_app : Linked N m.mate (slot x 0)
    to_app = subst (λ p. Linked N m.mate p) s.port (linked_sym N m.port m.mate m.begins)

    -- out of the abstraction, back to the application and into the argument
    around : (u : Level) → List (Crossing NodeName)
    around u = turned m.row ++ fall x 1 ∷ []

    goes_around : (u w : Level) (d : Context) → Goes N (slot x' 0) (put L' (cons (star u) (cons w d)))
        (turned m.row ++ fall x 1 ∷ []) (slot x 2) (put L (cons u (cons w d)))
    goes_around u w d =
        goes_on N
        (goes_to N refl (s.from (star u) (cons w d))
        (goes_at N refl (sym (r'.to (star u) (cons w d))) (back N net (m.goes (star u) (cons w d)) to_lam m.begins)))
        (downwards N kind.App 1 L (cons u (cons w d)) r.node r.long (omega arith) to_app)

    -- the argument's copies
    copies : Puts (point (before (under v none) c)) (pushed (ToBinder N x' L') env) env
    copies zero q z h (u, j, g) =
        let y = a u in
        let f = length-append q.row (j ++ (turned m.row ++ fall x 1 ∷ [])) in
        let f' = length-append j (turned m.row ++ fall x 1 ∷ []) in
        let f'' = length-append (turned m.row) (fall x 1 ∷ []) in
        let e = length_turned m.row in
        let k = size_joined z (under v none) in
        as_term (sym (before_joined z (under v none) c)) (record {
          link = prefixed q.port q.mate q.begins q.from (q.row ++ (j ++ (turned m.row ++ fall x 1 ∷ []))) y.0
              (λ w d. goes_on N (q.goes w d) (goes_on N (g w d)
              (goes_to N (sym y.1.port) (sym (y.1.from w d)) (goes_around u w d))));
          port = refl;
          from = λ v c. refl;
          trace = longer (joined z (under v none)) c env q.port q.mate q.begins q.from
              (q.row ++ (j ++ (turned m.row ++ fall x 1 ∷ []))) y.0
              (λ w d. goes_on N (q.goes w d) (goes_on N (g w d)
              (goes_to N (sym y.1.port) (sym (y.1.from w d)) (goes_around u w d))))
              (omega (arith, f, f', f'', e, k, h, t)) y.2;
        })
    copies (suc y) q z h e =
        let k = size_joined z none in same_link {t = var y (joined z none)} {env = env} (omega (arith, k, h), e)

    module _ (k : Link N) (s' : Starts N (slot x' 1) (own L') k) (z : Trace N b (pushed (ToBinder N x' L') env) k)
        (t' : size w ≤ length l.row) where
      C : Labelled
      C = before (under v none) c

      inner : Kept N (substituted (before (under v none) c) 0 b) env k
      inner = as_term (sym (substituted_inst (before (under v none) c) b))
          (put_in (point (before (under v none) c)) b (pushed (ToBinder N x' L') env) env copies k z)

      through : (i : Kept N (substituted (before (under v none) c) 0 b) env k) (u : Level) (d : Context) →
          Goes N l.port (l.from u d) (l.row ++ (rise x 0 ∷ [] ++ (m.row ++ fall x' 0 ∷ []))) i.link.port (i.link.from u d)
      through i u d =
          goes_on N (l.goes u d)
          (goes_on N
          (goes_at N refl (r.to u d) (upwards N kind.App 0 L (cons u d) r.node r.long (omega arith)
          (subst (λ p. Linked N l.last_port p) r.at l.ends)))
          (goes_on N
          (goes_at N (sym s.port) (sym (s.from (o u) d)) (m.goes (o u) d))
          (goes_to N (sym (i.port ∙ s'.port)) (sym (i.from u d ∙ s'.from u d))
          (goes_at N refl (r'.to (o u) d) (downwards N kind.Lam 0 L' (cons u d) r'.node r'.long (omega arith) to_lam)))))

      left_over : (i : Kept N (substituted (before (under v none) c) 0 b) env k) → Kept N (reduct w v c b) env l
      left_over i =
          let f = length-append l.row (rise x 0 ∷ [] ++ (m.row ++ fall x' 0 ∷ [])) in
          let f' = length-append m.row (fall x' 0 ∷ []) in
          let e = size_joined w (over v none) in
          record {
            link = prefixed l.port l.mate l.begins l.from (l.row ++ (rise x 0 ∷ [] ++ (m.row ++ fall x' 0 ∷ []))) i.link (through i);
            port = refl;
            from = λ v c. refl;
            trace = longer (joined w (over v none)) (substituted (before (under v none) c) 0 b) env l.port l.mate l.begins l.from
                (l.row ++ (rise x 0 ∷ [] ++ (m.row ++ fall x' 0 ∷ []))) i.link (through i)
                (omega (arith, f, f', e, t, t')) i.trace;
          }

      contracted : Kept N (reduct w v c b) env l
      contracted = left_over inner

  -- a weak head step keeps the trace
  pub steps : IsNet N → {t u : Labelled} → Weak t u → (env : Env) (l : Link N) → Trace N t env l → Kept N u env l
  steps net (at_redex {b = b} {c = c} {v = v} {w = w}) env l (t', x, n, L, r, (m, s, (t, x', n', L', r', k, s', z)), a) =
      contracted net b c v w env l x n L r m s t x' n' L' r' a k s' z t'
  steps net (at_function {g = g} {a = a} {w = w} q) env l (t, x, n, L, r, (m, s, k), a') =
      let z = steps net q env m k in
      same_link {t = app g a w} {env = env} (t, x, n, L, r, (z.link, starts_kept s z, z.trace), a')
