-- The net of (\x. x x) (\y. y), and one with a wrong index.
-- Used for `wrong_index_blocks`.
use Rattle.std.proofs.Common.{◌≡◌, ℕ, List, [], ◌∷◌, inl, inr, refl, sym, ap, ◌∙◌, subst, arith}
use Rattle.ol_context.specs.Contexts.{Level, empty, o, star, Context, cons, levels, mark}
use Rattle.ol_law_levels.proofs.WrongTables.{lower_keep}
use Rattle.ol_law_levels.proofs.Terms.{term_is_levelled}
use Rattle.ol_law_levels.specs.WrongTables.{MayHaveInPlace}
use Rattle.ol_net.specs.Nets.{NamedNet, slot, HasNode}
use Rattle.ol_net.specs.declared.parts.Kind.{Kind}
use Rattle.ol_net.specs.declared.parts.Kind.TheVariants as kind
use Rattle.ol_term.specs.declared.translations.Translation.TheVariants.{Two}
use Rattle.ol_translate.specs.Names.{HasNames}
use Rattle.ol_law_levels.proofs.UnblockedTerms.{term_is_unblocked}
use Rattle.ol_law_levels.specs.Unblocked.{Change, rise, fall, Reaches, begins, along, rises, falls, IsUnblocked}
use Rattle.ol_law_levels.specs.BlockingIndex.{self_applied, self_net, RightIndexIsUnblocked, LowerIndexIsBlocked}

self_names : HasNames self_applied 0
self_names = record { bound = refl; named = refl; each = λ k b. absurd (omega (arith, b)) }

pub right_index_is_unblocked : RightIndexIsUnblocked
right_index_is_unblocked = (refl, term_is_unblocked Two self_applied 0 self_names)

-- ---- index 0

abbrev M : NamedNet ℕ
M = self_net 0

fan : HasNode M 4 kind.Fan 0
fan = inr (inr (inr (inr (inl refl))))

lam_x : HasNode M 1 kind.Lam 0
lam_x = inr (inl refl)

app : HasNode M 0 kind.App 0
app = inl refl

lam_y : HasNode M 5 kind.Lam 1
lam_y = inr (inr (inr (inr (inr (inl refl)))))

croissant_y : HasNode M 6 kind.Croissant 0
croissant_y = inr (inr (inr (inr (inr (inr (inl refl))))))

-- from the first occurrence of x up to its abstraction, and down through the application to y
abbrev to_y : List Change
to_y = fall kind.Lam 1 1 ∷ fall kind.App 0 1 ∷ rise kind.Lam 0 1 ∷ rise kind.Fan 0 0 ∷ []

abbrev blank : Context
blank = levels []

comes_to_y : Reaches M (slot 6 0) to_y
comes_to_y =
    let one : Reaches M (slot 4 0) (rise kind.Fan 0 0 ∷ []) =
    rises kind.Fan 0 (begins {p = slot 4 1} (kind.Fan, 0, fan, omega arith)) fan (omega arith) in
    let two : Reaches M (slot 1 0) (rise kind.Lam 0 1 ∷ rise kind.Fan 0 0 ∷ []) =
    rises kind.Lam 0 (along one (inr (inr (inr (inr (inr (inl refl))))))) lam_x (omega arith) in
    let three : Reaches M (slot 0 2) (fall kind.App 0 1 ∷ rise kind.Lam 0 1 ∷ rise kind.Fan 0 0 ∷ []) =
    falls kind.App 0 (mark 0 blank)
    (along two (inr (inr (inr (inr (inr (inr (inr (inr (inl refl)))))))))) app (omega arith)
    (mark 0 blank, (blank, tt, refl), refl) in
    let four : Reaches M (slot 5 2) to_y =
    falls kind.Lam 1 (cons (o empty) blank)
    (along three (inl (inr (inr (inr (inr (inr (inr (inr (inr (inl refl))))))))))) lam_y (omega arith)
    (cons (o empty) (mark 1 blank), (cons empty (mark 1 blank), tt, refl), refl) in
    along four (inl (inr (inr (inr (inr (inr (inr (inl refl))))))))

clash : (v : Level) → star (o v) ≡ star empty → ⊥
clash v e = absurd (cc)

is_blocked : IsUnblocked M → ⊥
is_blocked u =
    let t = u 6 kind.Croissant 0 to_y croissant_y tt comes_to_y in
    let b : Context = t.3.1.0 in
    let first : o (b 0) ≡ t.3.0 0 = ap (λ (c : Context). c 0) t.3.1.2 in
    let second : star (t.3.0 0) ≡ star empty = ap (λ (c : Context). c 0) t.3.2 in
    clash (b 0) (ap star first ∙ second)

lower : (x : ℕ) (k : Kind) (i : ℕ) → HasNode M x k i → (j : ℕ) × HasNode (self_net 1) x k j × MayHaveInPlace k i j
lower x k i h = go x k i h
  where
    same : (x' x : ℕ) (k' k : Kind) (i' i j : ℕ) → ◌≡◌ {A = ℕ × Kind × ℕ} (x, k, i) (x', k', i') →
        HasNode (self_net 1) x' k' j → MayHaveInPlace k' i' j →
        (j : ℕ) × HasNode (self_net 1) x k j × MayHaveInPlace k i j
    same x' x k' k i' i j e h m = (
      j,
      subst (λ (t : ℕ × Kind × ℕ). HasNode (self_net 1) t.0 t.1 j) (sym e) h,
      subst (λ (t : ℕ × Kind × ℕ). MayHaveInPlace t.1 t.2 j) (sym e) m,
    )

    go : (x : ℕ) (k : Kind) (i : ℕ) → HasNode M x k i →
        (j : ℕ) × HasNode (self_net 1) x k j × MayHaveInPlace k i j
    go x k i (inl e) = same 0 x kind.App k 0 i 0 e (inl refl) refl
    go x k i (inr (inl e)) = same 1 x kind.Lam k 0 i 0 e (inr (inl refl)) refl
    go x k i (inr (inr (inl e))) = same 2 x kind.App k 0 i 0 e (inr (inr (inl refl))) refl
    go x k i (inr (inr (inr (inl e)))) =
        same 3 x kind.Croissant k 0 i 0 e (inr (inr (inr (inl refl)))) (omega arith)
    go x k i (inr (inr (inr (inr (inl e))))) =
        same 4 x kind.Fan k 0 i 0 e (inr (inr (inr (inr (inl refl))))) (omega arith)
    go x k i (inr (inr (inr (inr (inr (inl e)))))) =
        same 5 x kind.Lam k 1 i 1 e (inr (inr (inr (inr (inr (inl refl)))))) refl
    go x k i (inr (inr (inr (inr (inr (inr (inl e))))))) =
        same 6 x kind.Croissant k 0 i 1 e (inr (inr (inr (inr (inr (inr (inl refl))))))) (omega arith)
    go x k i (inr (inr (inr (inr (inr (inr (inr h))))))) = absurd h

pub lower_index_is_blocked : LowerIndexIsBlocked
lower_index_is_blocked = (
  lower_keep (self_net 1) M refl lower (term_is_levelled Two self_applied 0 self_names),
  is_blocked,
)
