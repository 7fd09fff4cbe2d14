-- The text of a walk, step by step.
use Rattle.std.proofs.Common.{◌≡◌, ℕ, ◌+◌, ◌-◌, ◌<◌, ◌≤◌, Bool, List, [], ◌∷◌, ◌++◌, append_assoc, length, codes, Option, Some, true, false}
use Rattle.std.proofs.Common.{refl, sym, ap, ◌∙◌, subst, arith}
use Rattle.std.specs.Prelude.{slice_get, if◌then◌else◌}
use Rattle.std.proofs.lemmas.List.{append-nil, length_push}
use Rattle.ol_term.specs.Trees.{Tree, tree_of, is_below, is_named_below}
use Rattle.ol_beta.specs.Beta.{contracted, IsWithin, IsPastAfter}
use Rattle.ol_strategies.specs.Redexes.{next}
use Rattle.ol_strategies.specs.Ends.{IsEnd}
use Rattle.ol_strategies.specs.declared.orders.Order.{Order}
use Rattle.ol_strategies.specs.declared.orders.Reached.{Reached}
use Rattle.ol_subjects.specs.declared.answers.End.TheVariants.{No}
use Rattle.ol_steps.specs.declared.earlier.Earlier.{Earlier}
use Rattle.ol_steps.specs.declared.stepping.Shown.{Shown}
use Rattle.ol_steps.specs.Binders.{Binders}
use Rattle.ol_steps.specs.Contraction as own
use Rattle.ol_steps.specs.EarlierTerms.{terms_of}
use Rattle.ol_steps.proofs.EarlierTerms.{kept_length, kept_more}
use Rattle.ol_steps.proofs.Named.{step_named}
use Rattle.ol_steps.specs.Steps.{Walk, starts, goes, IsNew, shown_line, step_lines, lines_of_step, walk_lines}
use Rattle.ol_steps.specs.Words.{Glossary}
use Rattle.ol_steps.specs.Steps.{binders_after, next_binders, last_binders, lines_to, lines_with_redex, unfolds, begun}
use Rattle.ol_steps.specs.Steps.{unfolding_after, last_unfolding, unfold_line, last_line, past_line, return_line}
use Rattle.ol_steps.specs.Steps.{reached_words, reached_end, Tells, ends, returns, left, past}
use Rattle.ol_steps.specs.declared.showing.Unfolding.{Unfolding}

-- a step from a term that is new
walk_more : {o : Order} {t v : Tree} {terms : List Tree} → Walk o t terms v → IsNew terms v → (at : List ℕ) →
    next o v ≡ Some at → (u : Tree) → contracted v at ≡ Some u → IsWithin u → Walk o t (terms ++ v ∷ []) u
walk_more walk new at redex u step within = goes walk new (at, redex, step) within

-- the lines of one step more
pub lines_more : (how : Shown) (g : Glossary) (u : Unfolding) (s : Binders) (terms : List Tree) (v : Tree) →
    walk_lines how g u s (terms ++ v ∷ [])
    ≡ walk_lines how g u s terms
    ++ lines_of_step how g (last_unfolding how.order u terms) v (last_binders how.order s terms)
lines_more how g u s [] v = append-nil (lines_of_step how g u v s)
lines_more how g u s (t ∷ terms) v =
    let r = next_binders how.order t s in
    let w = unfolding_after how.order u t in
    ap (λ (x : List ℕ). lines_of_step how g u t s ++ x) (lines_more how g w r terms v)
    ∙ sym (append_assoc (lines_of_step how g u t s) (walk_lines how g w r terms)
    (lines_of_step how g (last_unfolding how.order w terms) v (last_binders how.order r terms)))

-- the names of binders behind one term more
pub binders_more : (order : Order) (s : Binders) (terms : List Tree) (v : Tree) →
    last_binders order s (terms ++ v ∷ []) ≡ next_binders order v (last_binders order s terms)
binders_more order s [] v = refl
binders_more order s (t ∷ terms) v = binders_more order (next_binders order t s) terms v

-- how far lets are unfolded behind one term more
pub unfolding_more : (order : Order) (u : Unfolding) (terms : List Tree) (v : Tree) →
    last_unfolding order u (terms ++ v ∷ []) ≡ unfolding_after order (last_unfolding order u terms) v
unfolding_more order u [] v = refl
unfolding_more order u (t ∷ terms) v = unfolding_more order (unfolding_after order u t) terms v

-- each step counts, and no more lets are unfolded than steps are made
pub record Counts (u : Unfolding) (n : ℕ) : Type 0 where
  pub made : u.made ≡ n
  pub hidden : u.hidden ≤ u.made

one_counts : (order : Order) (u : Unfolding) (t : Tree) (n : ℕ) → Counts u n → Counts (unfolding_after order u t) (n + 1)
one_counts order u t n h = go (unfolds u.left (next order t))
  where
    go : (b : Bool) → Counts (if b then record { left = u.left - 1; hidden = u.hidden + 1; made = u.made + 1 }
        else record { left = u.left; hidden = 0; made = u.made + 1 }) (n + 1)
    go true = let m = h.made in let k = h.hidden in record { made = omega (arith, m); hidden = omega (arith, k) }
    go false = let m = h.made in record { made = omega (arith, m); hidden = omega arith }

all_count : (order : Order) (u : Unfolding) (terms : List Tree) (n m : ℕ) → Counts u n → m ≡ n + length terms →
    Counts (last_unfolding order u terms) m
all_count order u [] n m h e = let i : n ≡ m = omega (arith, e) in subst (Counts u) i h
all_count order u (t ∷ terms) n m h e =
    all_count order (unfolding_after order u t) terms (n + 1) m (one_counts order u t n h) (omega (arith, e))

pub counts : (order : Order) (lets : ℕ) (terms : List Tree) → Counts (last_unfolding order (begun lets) terms) (length terms)
counts order lets terms =
    all_count order (begun lets) terms 0 (length terms) (record { made = refl; hidden = omega arith }) (omega arith)

module _ (how : Shown) (g : Glossary) (lets most : ℕ) (t : Tree) (s : Binders) (terms : List Tree) (v : Tree)
    (w : Binders) (w_is : w ≡ last_binders how.order s terms)
    (u : Unfolding) (u_is : u ≡ last_unfolding how.order (begun lets) terms)
    (walk : Walk how.order t terms v) (made : ℕ) (made_is : made ≡ length terms)
    (text : List ℕ) (is : text ≡ walk_lines how g (begun lets) s terms) (shown : List ℕ) where
  -- what is told behind the steps before
  told : (rest : Unfolding → Binders → List ℕ) → text ++ rest u w ≡ walk_lines how g (begun lets) s terms
      ++ rest (last_unfolding how.order (begun lets) terms) (last_binders how.order s terms)
  told rest = ap (λ (x : List ℕ). x ++ rest u w) is
      ∙ ap (λ (b : Binders). walk_lines how g (begun lets) s terms ++ rest u b) w_is
      ∙ ap (λ (x : Unfolding). walk_lines how g (begun lets) s terms ++ rest x (last_binders how.order s terms)) u_is

  module _ (shown_is : shown ≡ text ++ (unfold_line u ++ shown_line how g v w)) where
    shown_to : shown ≡ lines_to how g lets s terms v
    shown_to = shown_is ∙ told (λ x b. unfold_line x ++ shown_line how g v b)

    pub tells_ends : (word : Reached) (last : List ℕ) → made ≤ most → IsEnd how.order v word →
        last ≡ shown ++ last_line (reached_words word) made → Tells how g lets most t s last (reached_end word)
    tells_ends word last few end e =
        ends word walk (subst (λ (n : ℕ). n ≤ most) made_is few) end
        (e ∙ ap (λ (x : List ℕ). x ++ last_line (reached_words word) made) shown_to
        ∙ ap (λ (n : ℕ). lines_to how g lets s terms v ++ last_line (reached_words word) n) made_is)

    pub tells_returns : (k : ℕ) (last : List ℕ) → made ≤ most → slice_get terms k ≡ Some v →
        last ≡ shown ++ return_line how.order made k → Tells how g lets most t s last No
    tells_returns k last few found e =
        returns k walk (subst (λ (n : ℕ). n ≤ most) made_is few) found
        (e ∙ ap (λ (x : List ℕ). x ++ return_line how.order made k) shown_to
        ∙ ap (λ (n : ℕ). lines_to how g lets s terms v ++ return_line how.order n k) made_is)

  module _ (at : List ℕ) (redex : next how.order v ≡ Some at)
      (shown_is : shown ≡ text ++ (unfold_line u ++ step_lines how g v w)) where
    shown_redex : shown ≡ lines_with_redex how g lets s terms v
    shown_redex = shown_is ∙ told (λ x b. unfold_line x ++ step_lines how g v b)

    pub tells_left : (last : List ℕ) → made ≡ most → IsNew terms v →
        last ≡ shown ++ last_line (codes "a redex is left") made → Tells how g lets most t s last No
    tells_left last all new e =
        left walk (sym made_is ∙ all) new redex
        (e ∙ ap (λ (x : List ℕ). x ++ last_line (codes "a redex is left") made) shown_redex
        ∙ ap (λ (n : ℕ). lines_with_redex how g lets s terms v ++ last_line (codes "a redex is left") n) all)

    pub tells_past : (last : List ℕ) (size depth : ℕ) → made < most → IsNew terms v → IsPastAfter v at size depth →
        last ≡ shown ++ past_line (made + 1) size depth → Tells how g lets most t s last No
    tells_past last size depth more new p e =
        past walk (subst (λ (n : ℕ). n < most) made_is more) new redex p
        (e ∙ ap (λ (x : List ℕ). x ++ past_line (made + 1) size depth) shown_redex
        ∙ ap (λ (n : ℕ). lines_with_redex how g lets s terms v ++ past_line (n + 1) size depth) made_is)

  pub lines_on : shown ≡ text ++ lines_of_step how g u v w → shown ≡ walk_lines how g (begun lets) s (terms ++ v ∷ [])
  lines_on shown_is = shown_is ∙ told (λ x b. lines_of_step how g x v b) ∙ sym (lines_more how g (begun lets) s terms v)

-- ---- what holds before each step

-- the walk led from t to v by way of the terms that are kept, its text is told up to v, and these are the names of
-- binders of v, and how far lets are unfolded
pub record IsWalked (how : Shown) (g : Glossary) (lets most : ℕ) (t : Tree) (s : Binders) (kept : List Earlier) (v : Tree)
    (w : Binders) (u : Unfolding) (text : List ℕ) : Type 0 where
  pub few : length kept ≤ most
  pub within : IsWithin v
  pub bound : is_below 0 v ≡ true
  pub named : is_named_below g.first v ≡ true
  pub walk : Walk how.order t (terms_of kept) v
  pub text_is : text ≡ walk_lines how g (begun lets) s (terms_of kept)
  pub binders_are : w ≡ last_binders how.order s (terms_of kept)
  pub unfolding_is : u ≡ last_unfolding how.order (begun lets) (terms_of kept)

pub walked_begin : (how : Shown) (g : Glossary) (lets most : ℕ) (t : Tree) (s : Binders) (kept : List Earlier)
    (v : Tree) (w : Binders) (u : Unfolding) (text : List ℕ) → kept ≡ [] → text ≡ [] → v ≡ t → w ≡ s → u ≡ begun lets →
    IsWithin t → is_below 0 t ≡ true → is_named_below g.first t ≡ true → IsWalked how g lets most t s kept v w u text
walked_begin how g lets most t s kept v w u text none empty here own seen within bound named =
    subst (λ (kept : List Earlier). IsWalked how g lets most t s kept v w u text) (sym none)
    (subst (λ (text : List ℕ). IsWalked how g lets most t s [] v w u text) (sym empty)
    (subst (λ (v : Tree). IsWalked how g lets most t s [] v w u []) (sym here)
    (subst (λ (w : Binders). IsWalked how g lets most t s [] t w u []) (sym own)
    (subst (λ (u : Unfolding). IsWalked how g lets most t s [] t s u []) (sym seen) (record {
      few = omega arith;
      within = within;
      bound = bound;
      named = named;
      walk = starts;
      text_is = refl;
      binders_are = refl;
      unfolding_is = refl;
    })))))

module _ (how : Shown) (g : Glossary) (lets most : ℕ) (t : Tree) (s : Binders) (kept : List Earlier) (v : Tree)
    (w : Binders) (u : Unfolding) (text : List ℕ) (walked : IsWalked how g lets most t s kept v w u text) (made : ℕ)
    (made_is : made ≡ length kept) where
  -- so many steps are counted
  pub made_so_far : (u.made ≡ made) × (u.hidden ≤ u.made)
  made_so_far = subst (λ (x : Unfolding). (x.made ≡ made) × (x.hidden ≤ x.made)) (sym walked.unfolding_is) (
    (counts how.order lets (terms_of kept)).made ∙ sym (made_is ∙ kept_length kept),
    (counts how.order lets (terms_of kept)).hidden,
  )

  module _ (at : List ℕ) (redex : next how.order v ≡ Some at) (shown : List ℕ)
      (shown_is : shown ≡ text ++ lines_of_step how g u v w) where
    -- the names of binders after the step
    binders_on : (e : Earlier) → tree_of e.term ≡ v → (b : Binders) → b ≡ own.contracted v w at →
        b ≡ last_binders how.order s (terms_of (kept ++ e ∷ []))
    binders_on e e_is b b_is =
        b_is
        ∙ ap (λ (c : Binders). own.contracted v c at) walked.binders_are
        ∙ ap (λ (o : Option (List ℕ)). binders_after o v (last_binders how.order s (terms_of kept))) (sym redex)
        ∙ sym (binders_more how.order s (terms_of kept) v)
        ∙ ap (λ (terms : List Tree). last_binders how.order s terms) (sym (kept_more kept e v e_is))

    -- and how far lets are unfolded
    unfolding_on : (e : Earlier) → tree_of e.term ≡ v → (x : Unfolding) → x ≡ unfolding_after how.order u v →
        x ≡ last_unfolding how.order (begun lets) (terms_of (kept ++ e ∷ []))
    unfolding_on e e_is x x_is =
        x_is
        ∙ ap (λ (y : Unfolding). unfolding_after how.order y v) walked.unfolding_is
        ∙ sym (unfolding_more how.order (begun lets) (terms_of kept) v)
        ∙ ap (λ (terms : List Tree). last_unfolding how.order (begun lets) terms) (sym (kept_more kept e v e_is))

    pub walked_more : made < most → IsNew (terms_of kept) v → (r : Tree) → contracted v at ≡ Some r → IsWithin r →
        is_below 0 r ≡ true → (e : Earlier) → tree_of e.term ≡ v → (more : List Earlier) → more ≡ kept ++ e ∷ [] →
        (x : Tree) → x ≡ r → (b : Binders) → b ≡ own.contracted v w at → (y : Unfolding) →
        y ≡ unfolding_after how.order u v → IsWalked how g lets most t s more x b y shown
    walked_more less new r step within bound e e_is more more_is x x_is b b_is y y_is =
        subst (λ (more : List Earlier). IsWalked how g lets most t s more x b y shown) (sym more_is)
        (subst (λ (x : Tree). IsWalked how g lets most t s (kept ++ e ∷ []) x b y shown) (sym x_is) (record {
          few = let l = length_push kept e in omega (arith, l, made_is, less);
          within = within;
          bound = bound;
          named = step_named g.first v at r walked.named step;
          walk = subst (λ (terms : List Tree). Walk how.order t terms r) (sym (kept_more kept e v e_is))
              (walk_more walked.walk new at redex r step within);
          text_is = lines_on how g lets most t s (terms_of kept) v w walked.binders_are u walked.unfolding_is walked.walk made
              (made_is ∙ kept_length kept) text walked.text_is shown shown_is
              ∙ ap (λ (terms : List Tree). walk_lines how g (begun lets) s terms) (sym (kept_more kept e v e_is));
          binders_are = binders_on e e_is b b_is;
          unfolding_is = unfolding_on e e_is y y_is;
        }))
