-- Terms of one another's conversion class, and terms put into them.
use Rattle.std.proofs.Common.{◌≡◌, ℕ, zero, suc, ◌+◌, ◌<◌, ◌==◌, true, [], ◌∷◌, None, refl, ap, ◌∙◌, subst, arith}
use Rattle.std.proofs.lemmas.Bool.{ltb-true, and_parts}
use Rattle.std.specs.Option.{option_map}
use Rattle.ol_beta.specs.Beta as beta
use Rattle.ol_beta.specs.Leftmost.{IsNormal}
use Rattle.ol_term.specs.Trees.{Tree, var, free, lam, app, is_below}
use Rattle.ol_law_confluence.specs.Reductions.{Convertible, contracts, same, turned, joined}
use Rattle.ol_law_confluence.proofs.Substitutions.{ren, up, inst, point, subst_inst, inst_like}
use Rattle.ol_counts.proofs.Normals.{lam_case, app_case}

-- ---- within a term

pub convertible_lam : {t u : Tree} → Convertible t u → Convertible (lam t) (lam u)
convertible_lam (contracts at e) = contracts (0 ∷ at) (ap (option_map lam) e)
convertible_lam same = same
convertible_lam (turned c) = turned (convertible_lam c)
convertible_lam (joined c d) = joined (convertible_lam c) (convertible_lam d)

pub convertible_fun : {t u : Tree} (a : Tree) → Convertible t u → Convertible (app t a) (app u a)
convertible_fun a (contracts at e) = contracts (1 ∷ at) (ap (option_map (λ f. app f a)) e)
convertible_fun a same = same
convertible_fun a (turned c) = turned (convertible_fun a c)
convertible_fun a (joined c d) = joined (convertible_fun a c) (convertible_fun a d)

pub convertible_arg : {t u : Tree} (f : Tree) → Convertible t u → Convertible (app f t) (app f u)
convertible_arg f (contracts at e) = contracts (2 ∷ at) (ap (option_map (app f)) e)
convertible_arg f same = same
convertible_arg f (turned c) = turned (convertible_arg f c)
convertible_arg f (joined c d) = joined (convertible_arg f c) (convertible_arg f d)

pub convertible_app : {f g a b : Tree} → Convertible f g → Convertible a b →
    Convertible (app f a) (app g b)
convertible_app {g = g} {a = a} c d = joined (convertible_fun a c) (convertible_arg g d)

pub convertible_is : {t u : Tree} → t ≡ u → Convertible t u
convertible_is {t} e = subst (λ u. Convertible t u) e same

pub convertible_beta : (b a : Tree) → Convertible (app (lam b) a) (inst (point a) b)
convertible_beta b a =
    joined (contracts [] refl) (convertible_is (subst_inst a b))

-- ---- variables for variables, and terms for them

up_var : (y : ℕ) → up var y ≡ var y
up_var zero = refl
up_var (suc y) = refl

pub inst_var : (t : Tree) → inst var t ≡ t
inst_var (var y) = refl
inst_var (free f) = refl
inst_var (lam t) = ap lam (inst_like up_var t ∙ inst_var t)
inst_var (app t u) = λ i. app (inst_var t i) (inst_var u i)

up_same : (d : ℕ) (σ τ : ℕ → Tree) → ((y : ℕ) → y < d → σ y ≡ τ y) → (y : ℕ) → y < d + 1 →
    up σ y ≡ up τ y
up_same d σ τ h zero l = refl
up_same d σ τ h (suc y) l = ap (ren suc) (h y (omega (arith, l)))

pub below_same : (t : Tree) (d : ℕ) (σ τ : ℕ → Tree) → is_below d t ≡ true →
    ((y : ℕ) → y < d → σ y ≡ τ y) → inst σ t ≡ inst τ t
below_same (var k) d σ τ e h = h k (ltb-true k d e)
below_same (free k) d σ τ e h = refl
below_same (lam t) d σ τ e h = ap lam (below_same t (d + 1) (up σ) (up τ) e (up_same d σ τ h))
below_same (app f a) d σ τ e h =
    let b = and_parts (is_below d f) (is_below d a) e in
    (λ i. app (below_same f d σ τ b.0 h i) (below_same a d σ τ b.1 h i))

-- ---- normal forms

abbrev pub Neutral : Tree → Type 0
Neutral (var k) = Unit {0}
Neutral (free k) = Unit {0}
Neutral (lam t) = ⊥
Neutral (app f a) = Neutral f

abbrev pub Normal : Tree → Type 0
Normal (var k) = Unit {0}
Normal (free k) = Unit {0}
Normal (lam t) = Normal t
Normal (app f a) = Neutral f × Normal f × Normal a

not_applied : (f c : Tree) → Neutral f → beta.applied f c ≡ None
not_applied (var k) c h = refl
not_applied (free k) c h = refl
not_applied (lam t) c h = absurd h
not_applied (app f a) c h = refl

pub is_normal : (t : Tree) → Normal t → IsNormal t
is_normal (var k) h at = refl
is_normal (free k) h at = refl
is_normal (lam t) h [] = refl
is_normal (lam t) h (m ∷ at) = lam_case (m == 0) (beta.contracted t at) (is_normal t h at)
is_normal (app f a) h [] = not_applied f a h.0
is_normal (app f a) h (m ∷ at) =
    app_case f a (m == 1) (m == 2) (beta.contracted f at) (beta.contracted a at)
    (is_normal f h.1 at) (is_normal a h.2 at)
