-- Contexts up to their last full level, and texts of levels.
use Rattle.std.proofs.Common.{◌≡◌, ℕ, zero, suc, ◌+◌, ◌-◌, ◌<◌, ◌≤◌, List, [], ◌∷◌, ◌++◌, length, map, take, get_or, refl, sym, ap, ◌∙◌, subst, arith, append_assoc}
use Rattle.std.proofs.lemmas.List.{append-nil, length-map, take_all, length-take-le}
use Rattle.std.proofs.Math.Seq.{take-suc}
use Rattle.std.specs.Prelude.{codes, ◌≢◌}
use Rattle.ol_context.specs.Contexts.{Level, empty, Context, levels}
use Rattle.ol_context.specs.Shapes.{value, context_of}
use Rattle.ol_context.proofs.LevelLists.{levels_at, levels_pad}
use Rattle.ol_decoding.specs.Lines.{level_text, later_levels, levels_text, IsWritten}
use Rattle.ol_decoding.specs.AddedLines.{AddsContext}

-- all levels
pub all_levels : (vs : List Level) (ms : List ℕ) (n : ℕ) → n ≡ length ms →
    levels (take n (map (value vs) ms)) ≡ context_of vs ms
all_levels vs ms n e = let l = length-map ms (value vs) in
    ap levels (take_all n (map (value vs) ms) (omega arith))

-- one level less, which is empty
pub one_less : (ls : List Level) (n : ℕ) → suc n ≤ length ls → levels ls n ≡ empty →
    levels (take (suc n) ls) ≡ levels ls → levels (take n ls) ≡ levels ls
one_less ls n b e s = sym (levels_pad (take n ls) 1)
    ∙ ap (λ (v : Level). levels (take n ls ++ v ∷ [])) (sym e ∙ levels_at ls n)
    ∙ ap levels (sym (take-suc ls n empty (omega arith))) ∙ s

later_push : (vs : List Level) (v : Level) → later_levels (vs ++ v ∷ []) ≡ later_levels vs ++ (codes ", " ++ level_text v)
later_push [] v = ap (λ (x : List ℕ). codes ", " ++ x) (append-nil (level_text v))
later_push (w ∷ ws) v =
    let t = ap (λ (x : List ℕ). codes ", " ++ (level_text w ++ x)) (later_push ws v) in
    t ∙ sym (append_assoc (codes ", ") (level_text w ++ later_levels ws) (codes ", " ++ level_text v)
    ∙ ap (λ (x : List ℕ). codes ", " ++ x) (append_assoc (level_text w) (later_levels ws) (codes ", " ++ level_text v)))

levels_push : (vs : List Level) (v : Level) → 0 < length vs →
    levels_text (vs ++ v ∷ []) ≡ levels_text vs ++ (codes ", " ++ level_text v)
levels_push [] v b = absurd (omega arith)
levels_push (w ∷ ws) v b = ap (λ (x : List ℕ). level_text w ++ x) (later_push ws v)
    ∙ sym (append_assoc (level_text w) (later_levels ws) (codes ", " ++ level_text v))

-- the text of the first level
pub first_level : (ls : List Level) (n : ℕ) → n ≡ 1 → 0 < length ls → levels_text (take n ls) ≡ level_text (levels ls 0)
first_level [] n e b = absurd (omega arith)
first_level (v ∷ vs) n e b = rw e (append-nil (level_text v))

-- and of one more
pub level_more : (ls : List Level) (k : ℕ) → 1 ≤ k → k < length ls →
    levels_text (take (suc k) ls) ≡ levels_text (take k ls) ++ (codes ", " ++ level_text (levels ls k))
level_more ls k b c = ap levels_text (take-suc ls k empty c)
    ∙ levels_push (take k ls) (get_or ls k empty) (some ls k b c)
    ∙ ap (λ (v : Level). levels_text (take k ls) ++ (codes ", " ++ level_text v)) (sym (levels_at ls k))
  where
    some : (ls : List Level) (k : ℕ) → 1 ≤ k → k < length ls → 0 < length (take k ls)
    some [] k b c = absurd (omega arith)
    some (v ∷ vs) zero b c = absurd (omega arith)
    some (v ∷ vs) (suc k) b c = omega arith

-- one level more in a text
pub level_put : (ls : List Level) (k : ℕ) (old a b t : List ℕ) → 1 ≤ k → k < length ls →
    a ≡ old ++ levels_text (take k ls) → b ≡ a ++ codes ", " → t ≡ b ++ level_text (levels ls k) →
    t ≡ old ++ levels_text (take (k + 1) ls)
level_put ls k old a b t low high e f g = g ∙ ap (λ (x : List ℕ). x ++ level_text (levels ls k)) f
    ∙ append_assoc a (codes ", ") (level_text (levels ls k))
    ∙ ap (λ (x : List ℕ). x ++ (codes ", " ++ level_text (levels ls k))) e
    ∙ append_assoc old (levels_text (take k ls)) (codes ", " ++ level_text (levels ls k))
    ∙ ap (λ (x : List ℕ). old ++ x) (sym (level_more ls k low high))
    ∙ ap (λ (n : ℕ). old ++ levels_text (take n ls)) (let s : suc k ≡ k + 1 = omega arith in s)

-- the levels that are written are the text of the context
pub context_put : (vs : List Level) (ms : List ℕ) (n : ℕ) (old new : List ℕ) → n ≤ length ms →
    levels (take n (map (value vs) ms)) ≡ context_of vs ms →
    ((k : ℕ) → suc k ≡ n → context_of vs ms k ≢ empty) →
    new ≡ old ++ levels_text (take n (map (value vs) ms)) → AddsContext (context_of vs ms) old new
context_put vs ms n old new b s f t = (
  levels_text (take n (map (value vs) ms)),
  record {
    written = take n (map (value vs) ms);
    is = sym s;
    full = λ k e. f k (let l = length-map ms (value vs) in let m = length-take-le n (map (value vs) ms) (omega arith) in
        omega arith);
    text_is = refl;
  },
  t,
)

-- the first level in a text
pub level_first : (ls : List Level) (old t : List ℕ) (v : Level) → 0 < length ls → v ≡ levels ls 0 → t ≡ old ++ level_text v →
    t ≡ old ++ levels_text (take 1 ls)
level_first ls old t v b e f = f ∙ ap (λ (v : Level). old ++ level_text v) e
    ∙ ap (λ (x : List ℕ). old ++ x) (sym (first_level ls 1 refl b))

pub some_levels : (vs : List Level) (ms : List ℕ) (k len : ℕ) → k < len → len ≤ length ms → k < length (map (value vs) ms)
some_levels vs ms k len b c = let l = length-map ms (value vs) in omega arith

-- one level less of those of a context, where it is empty; and where it isn't, it is the last
pub less_levels : (vs : List Level) (ms : List ℕ) (n v w : ℕ) → 0 < n → n ≤ length ms →
    levels (take n (map (value vs) ms)) ≡ context_of vs ms → value vs v ≡ context_of vs ms (n - 1) → value vs w ≡ empty →
    value vs v ≡ value vs w → levels (take (n - 1) (map (value vs) ms)) ≡ context_of vs ms
less_levels vs ms n v w b c s e z q =
    let l = length-map ms (value vs) in
    let p : suc (n - 1) ≡ n = omega arith in
    one_less (map (value vs) ms) (n - 1) (omega arith) (sym e ∙ q ∙ z)
    (subst (λ (n : ℕ). levels (take n (map (value vs) ms)) ≡ context_of vs ms) (sym p) s)

pub last_full : (vs : List Level) (ms : List ℕ) (n v w : ℕ) → value vs v ≡ context_of vs ms (n - 1) →
    value vs w ≡ empty → (value vs v ≡ value vs w → ⊥) → (k : ℕ) → suc k ≡ n → context_of vs ms k ≢ empty
last_full vs ms n v w e z apart k p q =
    let r : k ≡ n - 1 = omega arith in
    apart (e ∙ ap (context_of vs ms) (sym r) ∙ q ∙ sym z)

pub none_full : (vs : List Level) (ms : List ℕ) (n : ℕ) → n ≡ 0 → (k : ℕ) → suc k ≡ n → context_of vs ms k ≢ empty
none_full vs ms n e k p q = absurd (omega arith)
