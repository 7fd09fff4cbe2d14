-- A labelled step takes what is read along edges with it: what has to be given, and how trails follow.
use Rattle.std.proofs.Common.{◌≡◌, ℕ, ◌+◌, Bool, true, false, [], ◌⊎◌, refl, sym, ap, ◌∙◌}
use Rattle.ol_law_meaning.specs.Contraction.{Tree, Level, empty, Context, Wire, Place, root, wire, Spot, at, Edge}
use Rattle.ol_law_meaning.specs.Contraction.{Trail, here, on, back, occurs, is_abstraction}
use Rattle.ol_law_meaning.proofs.Ways.{Has}
use Rattle.ol_law_optimality.proofs.Sites.{base, Stands}
use Rattle.ol_law_optimality.specs.Labels.{Label, Labelled}
use Rattle.ol_law_meaning.specs.Sites.{Site, spot_in}
use Rattle.ol_law_meaning.proofs.Trails.{tr_trans}
use Rattle.ol_term.specs.declared.translations.Translation.{Translation}
use Rattle.ol_law_optimality.specs.Signs.{Signs, signs_of, reversed}
use Rattle.ol_law_optimality.specs.Readings.{label_of, reading, word_along, function_label, Acting, moved}
use Rattle.ol_law_optimality.proofs.Motions.{Motion, still, then_by, Walks, stay, and_on, moved_append}

-- spots of t and of t', and what is read at the later one beyond what is read at the first one
pub record Related : Type 1 where
  pub R : Spot → Spot → Type 0
  pub shift : (s z : Spot) → R s z → Motion

-- what follows an edge along which a is read
pub record Follows (τ : Translation) (t' : Tree) (U : Labelled) (K : Related) (s s' z : Spot) (k : K.R s z) (a : Signs) : Type 0 where
  pub spot : Spot
  pub rel : K.R s' spot
  pub motion : Motion
  pub walks : Walks τ t' U z spot motion
  pub alike : (r : Acting) (x : Signs) → motion r (K.shift s z k r x) ≡ K.shift s' spot rel r (moved r a x)

-- the way out
pub record Leaves (τ : Translation) (t' : Tree) (U : Labelled) (K : Related) (S : Place → Level → Level → Type 0) (p : Place) (v : Level) (c : Context) (z : Spot) (k : K.R (at p v c) z)
    (a b : Signs) : Type 0 where
  pub level : Level
  pub same : S p v level
  pub motion : Motion
  pub walks : Walks τ t' U z (at p level c) motion
  pub alike : (r : Acting) (x : Signs) → motion r (K.shift (at p v c) z k r (moved r a x)) ≡ moved r b x

-- what the label of the place is
abbrev pub placed : Labelled → Place → Signs
placed T root = signs_of (label_of T)
placed T (wire y) = []

-- an application's site after the step, whatever the levels
pub record Goes (t' : Tree) (T U : Labelled) (K : Related) (p : Site) : Type 0 where
  pub site : Site
  pub there : Stands true t' site
  pub all : (w : Level) (d : Context) → K.R (spot_in p (base true w d)) (spot_in site (base true w d))
  pub alike : (w : Level) (d : Context) (r : Acting) (x : Signs) →
      K.shift (spot_in p (base true w d)) (spot_in site (base true w d)) (all w d) r (moved r (signs_of (function_label T p)) x)
      ≡ moved r (signs_of (function_label U site)) x

-- and that of an abstraction
pub record Comes (t' : Tree) (K : Related) (p : Site) (c : Context) (z : Spot) (k : K.R (spot_in p (base false empty c)) z) : Type 0 where
  pub site : Site
  pub is : z ≡ spot_in site (base false empty c)
  pub there : Stands false t' site
  pub alike : (r : Acting) (x : Signs) → K.shift (spot_in p (base false empty c)) z k r x ≡ x

-- ---- and back

-- what an edge of the next term comes from
pub record Undone (τ : Translation) (t : Tree) (R : Spot → Spot → Type 0) (s z : Spot) : Type 0 where
  pub spot : Spot
  pub rel : R spot z
  pub weight : ℕ
  pub trail : Trail (Edge τ t) s spot weight

pub record Left (τ : Translation) (t : Tree) (S : Place → Level → Level → Type 0) (p : Place) (v : Level) (c : Context) (s : Spot) : Type 0 where
  pub level : Level
  pub same : S p level v
  pub weight : ℕ
  pub trail : Trail (Edge τ t) s (at p level c) weight

-- what an application or an abstraction comes from
pub record Source (τ : Translation) (t : Tree) (R : Spot → Spot → Type 0) (b : Bool) (q : Site) (v : Level) (d : Context) (s : Spot) : Type 0 where
  pub site : Site
  pub there : Stands b t site
  pub all : (w : Level) (e : Context) → (b ≡ false → w ≡ empty) → R (spot_in site (base b w e)) (spot_in q (base b w e))
  pub weight : ℕ
  pub trail : Trail (Edge τ t) s (spot_in site (base b v d)) weight

pub record Backs (τ : Translation) (t t' : Tree) (R : Spot → Spot → Type 0) (S : Place → Level → Level → Type 0) : Type 0 where
  pub ungo : (z z' s : Spot) (n : ℕ) → Edge τ t' z z' n → R s z → Undone τ t R s z'
  pub uncome : (z z' s : Spot) (n : ℕ) → Edge τ t' z' z n → R s z → Undone τ t R s z'
  pub unout : (p : Place) (v : Level) (c : Context) (s : Spot) → R s (at p v c) → Has p t' → Left τ t S p v c s
  pub source : (b : Bool) (q : Site) (v : Level) (d : Context) (s : Spot) → (b ≡ false → v ≡ empty) → Stands b t' q → R s (spot_in q (base b v d)) → Source τ t R b q v d s

pub record Keeps (τ : Translation) (t t' : Tree) (T U : Labelled) (S : Place → Level → Level → Type 0) (d : Label) : Type 1 where
  pub K : Related
  pub start : (p : Place) (v v' : Level) (c : Context) → S p v v' → K.R (at p v c) (at p v' c)
  pub starts : (p : Place) (v v' : Level) (c : Context) (e : S p v v') (r : Acting) (x : Signs) →
      K.shift (at p v c) (at p v' c) (start p v v' c e) r (moved r (placed T p) x) ≡ moved r (placed U p) x
  pub go : (s s' z : Spot) (n : ℕ) → Edge τ t s s' n → (k : K.R s z) → Follows τ t' U K s s' z k (reading T s s')
  pub come : (s s' z : Spot) (n : ℕ) → Edge τ t s' s n → (k : K.R s z) → Follows τ t' U K s s' z k (reversed (reading T s' s))
  pub out : (p : Place) (v : Level) (c : Context) (z : Spot) (k : K.R (at p v c) z) → Has p t → Leaves τ t' U K S p v c z k (placed T p) (placed U p)
  pub old : (y : Wire) (a a' : Level) → S (wire y) a a' → occurs y t ≡ true
  pub new : (y : Wire) (a a' : Level) → S (wire y) a a' → occurs y t' ≡ true
  pub backs : Backs τ t t' K.R S
  pub redex : Site
  pub gone : (c : Context) (z : Spot) → K.R (spot_in redex (base true empty c)) z → ⊥
  pub degree : function_label T redex ≡ d
  pub dead : (c : Context) (s : Spot) (n : ℕ) → (Edge τ t (spot_in redex (base true empty c)) s n → ⊥) × (Edge τ t s (spot_in redex (base true empty c)) n → ⊥)
  pub top : (v : Level) (c : Context) (z : Spot) → is_abstraction t ≡ false → K.R (at root v c) z → z ≡ at root v c
  pub goes : (p : Site) (v : Level) (c : Context) (z : Spot) → Stands true t p → K.R (spot_in p (base true v c)) z →
      (p ≡ redex) ⊎ ((g : Goes t' T U K p) × (z ≡ spot_in g.site (base true v c)))
  pub comes : (p : Site) (c : Context) (z : Spot) → Stands false t p → (k : K.R (spot_in p (base false empty c)) z) → Comes t' K p c z k

module _ {τ : Translation} {t t' : Tree} {T U : Labelled} {S : Place → Level → Level → Type 0} {d : Label} (w : Keeps τ t t' T U S d) where
  -- a trail is followed, and what is read with it
  pub follow : {s s' z : Spot} {n : ℕ} (u : Trail (Edge τ t) s s' n) (k : w.K.R s z) → Follows τ t' U w.K s s' z k (word_along T u)
  follow {z = z} here k = record { spot = z; rel = k; motion = still; walks = stay; alike = λ r x. refl }
  follow {s' = e} {z = z} (on {s = s} {s' = s1} {w = n} e1 u h) k =
      let a = w.go s s1 z n e1 k in
      let b = follow u a.rel in
      record {
        spot = b.spot;
        rel = b.rel;
        motion = then_by a.motion b.motion;
        walks = and_on a.walks b.walks;
        alike = λ r x. ap (b.motion r) (a.alike r x) ∙ b.alike r (moved r (reading T s s1) x)
            ∙ ap (w.K.shift e b.spot b.rel r) (sym (moved_append r (reading T s s1) (word_along T u) x));
      }
  follow {s' = e} {z = z} (back {s = s} {s' = s1} {w = n} e1 u h) k =
      let a = w.come s s1 z n e1 k in
      let b = follow u a.rel in
      record {
        spot = b.spot;
        rel = b.rel;
        motion = then_by a.motion b.motion;
        walks = and_on a.walks b.walks;
        alike = λ r x. ap (b.motion r) (a.alike r x) ∙ b.alike r (moved r (reversed (reading T s1 s)) x)
            ∙ ap (w.K.shift e b.spot b.rel r) (sym (moved_append r (reversed (reading T s1 s)) (word_along T u) x));
      }

  -- and back
  pub undo : {z z' : Spot} {n : ℕ} (u : Trail (Edge τ t') z z' n) (s : Spot) → w.K.R s z → Undone τ t w.K.R s z'
  undo here s k = record { spot = s; rel = k; weight = 0; trail = here }
  undo (on {s = z} {s' = z1} {w = n} e u h) s k =
      let a = w.backs.ungo z z1 s n e k in
      let b = undo u a.spot a.rel in
      record { spot = b.spot; rel = b.rel; weight = a.weight + b.weight; trail = tr_trans a.trail b.trail refl }
  undo (back {s = z} {s' = z1} {w = n} e u h) s k =
      let a = w.backs.uncome z z1 s n e k in
      let b = undo u a.spot a.rel in
      record { spot = b.spot; rel = b.rel; weight = a.weight + b.weight; trail = tr_trans a.trail b.trail refl }
