-- Where a place of a tree has no head, leftmost reduction of the term that it shows doesn't end.
use Rattle.std.proofs.Common.{◌≡◌, ℕ, zero, suc, ◌+◌, Bool, true, false, ◌⊎◌, inl, inr, List, []}
use Rattle.std.proofs.Common.{◌∷◌, ◌++◌, length, Option, Some, None, refl, sym, ap, ◌∙◌, subst}
use Rattle.std.specs.Prelude.{IsSome}
use Rattle.std.specs.Option.{option_map}
use Rattle.ol_beta.specs.Beta.{contracted}
use Rattle.ol_beta.specs.Leftmost.{leftmost}
use Rattle.ol_beta.specs.Leftmost as beta_steps
use Rattle.ol_beta.proofs.Redexes.{leftmost_first}
use Rattle.ol_readback.specs.Whole.{Part, term, lost, cut, none, more, preorder}
use Rattle.ol_readback.specs.Terms.{abstracted, variable_of}
use Rattle.ol_readback.specs.declared.answers.HeadVar.{HeadVar}
use Rattle.ol_readback.specs.declared.answers.ReadNode.{ReadNode}
use Rattle.ol_readback.specs.declared.answers.ReadNode.TheVariants as node
use Rattle.ol_law_meaning.specs.Contraction.{Tree, lam, app}
use Rattle.ol_law_meaning.specs.Shows.{ready, contract, LeftmostReduces, HeadReduces, HeadReducesForever, applied}
use Rattle.ol_law_meaning.specs.Shows.{Shows, LacksHead}
use Rattle.ol_law_meaning.proofs.LeftmostSteps.{leftmost_step, same_step}
use Rattle.ol_law_meaning.proofs.HeadSteps.{step_of, redex_step, step_then}
use Rattle.ol_law_meaning.proofs.LeftmostRoads.{IsNeutral, arg_leftmost, variable_neutral, StepsTo, step_before}

-- ---- a leftmost step, or none

pub some_none : (at : List ℕ) → Some at ≡ None → ⊥
some_none at e = absurd (cc)

pub step_or_none : (t : Tree) → (leftmost t ≡ None) ⊎ ((u : Tree) × StepsTo t u)
step_or_none t = by (leftmost t) refl
  where
    gives : (at : List ℕ) → leftmost t ≡ Some at → (o : Option Tree) → contracted t at ≡ o →
        IsSome o → (u : Tree) × StepsTo t u
    gives at e None f s = absurd (cc)
    gives at e (Some u) f s = (u, record { at = at; first = e; gives = f })

    by : (o : Option (List ℕ)) → leftmost t ≡ o → (leftmost t ≡ None) ⊎ ((u : Tree) × StepsTo t u)
    by None e = inl e
    by (Some at) e = inr (gives at e (contracted t at) refl (leftmost_first t at e).0)

-- ---- a reduction that ends, and steps that it begins with

-- what leftmost reduction that ends leads to after a step
pub rest_of : {t u v : Tree} {at : List ℕ} → leftmost t ≡ Some at → contracted t at ≡ Some u →
    LeftmostReduces t v → leftmost v ≡ None → LeftmostReduces u v
rest_of {at = at} e f ready n = absurd (some_none at (sym e ∙ n))
rest_of {t = t} {v = v} e f (contract g h l) n = subst (λ u. LeftmostReduces u v) (same_step t g h e f) l

pub after_head : {t u v : Tree} → HeadReduces t u → LeftmostReduces t v → leftmost v ≡ None → LeftmostReduces u v
after_head ready l n = l
after_head (contract c e s) l n =
    let r = leftmost_step (step_of c e) in after_head s (rest_of r.1 r.2 l n) n

-- head reduction has an end where leftmost reduction has one
never : {t v : Tree} → HeadReducesForever t → LeftmostReduces t v → leftmost v ≡ None → ⊥
never {t = t} f ready n =
    let h = redex_step (f t ready) in
    let r = leftmost_step h.1 in
    some_none r.0 (sym r.1 ∙ n)
never {t = t} f (contract {u = u} e g l) n =
    let h = redex_step (f t ready) in
    let r = leftmost_step h.1 in
    let same : h.0 ≡ u = same_step t r.1 r.2 e g in
    never (λ w s. f w (step_then h.1 (subst (λ a. HeadReduces a w) (sym same) s))) l n

-- ---- within a term

-- what reduction that ends makes of a part in which the leftmost redex is looked for first
pub record Ended (P v : Tree) (f : Tree → Tree) : Type 0 where
  pub last : Tree
  pub leads : LeftmostReduces P last
  pub normal : leftmost last ≡ None
  pub rest : LeftmostReduces (f last) v

pub within : (f : Tree → Tree) → ((t u : Tree) → StepsTo t u → StepsTo (f t) (f u)) → {t v : Tree} →
    LeftmostReduces t v → leftmost v ≡ None → (P : Tree) → t ≡ f P → Ended P v f
within f up {v = v} ready n P e = by (step_or_none P)
  where
    by : (leftmost P ≡ None) ⊎ ((u : Tree) × StepsTo P u) → Ended P v f
    by (inl k) = record { last = P; leads = ready; normal = k; rest = subst (λ t. LeftmostReduces t v) e ready }
    by (inr k) = let s = up P k.0 k.1 in absurd (some_none s.at (sym s.first ∙ ap leftmost (sym e) ∙ n))
within f up {t = t} {v = v} (contract {u = w} {at = at} g h l) n P e = by (λ Q k. within f up l n Q k) (step_or_none P)
  where
    by : ((Q : Tree) → w ≡ f Q → Ended Q v f) → (leftmost P ≡ None) ⊎ ((u : Tree) × StepsTo P u) → Ended P v f
    by next (inl k) = record {
      last = P;
      leads = ready;
      normal = k;
      rest = subst (λ t. LeftmostReduces t v) e (contract {at = at} g h l);
    }
    by next (inr k) =
        let s = up P k.0 k.1 in
        let x = next k.0 (same_step t g h (ap leftmost e ∙ s.first) (ap (λ t. contracted t s.at) e ∙ s.gives)) in
        record {
          last = x.last;
          leads = contract {at = k.1.at} k.1.first k.1.gives x.leads;
          normal = x.normal;
          rest = x.rest;
        }

pub within_lam : (l : ℕ) (t u : Tree) → StepsTo t u → StepsTo (abstracted l t) (abstracted l u)
within_lam zero t u s = s
within_lam (suc l) t u s =
    let r = within_lam l t u s in
    record { at = 0 ∷ r.at; first = ap (beta_steps.under 0) r.first; gives = ap (option_map lam) r.gives }

pub within_arg : (f : Tree) → IsNeutral f → (Ps : List Tree) (t u : Tree) → StepsTo t u →
    StepsTo (applied (app f t) Ps) (applied (app f u) Ps)
within_arg f n Ps t u s = step_before Ps (app f t) (app f u) refl
    (record { at = 2 ∷ s.at; first = arg_leftmost f t (Some s.at) n s.first; gives = ap (option_map (app f)) s.gives })

-- ---- a whole tree

lacks_split : (ns ms : List ReadNode) → LacksHead (ns ++ ms) → LacksHead ns ⊎ LacksHead ms
lacks_split [] ms h = inr h
lacks_split (node.Head l v k ∷ ns) ms h = lacks_split ns ms h
lacks_split (node.NoHead ∷ ns) ms h = inl tt
lacks_split (node.Cut ∷ ns) ms h = lacks_split ns ms h

abbrev Endless : {c : Bool} → Part c → Type 0
Endless {c = true} t = (ss : List (ℕ × ℕ)) (i : ℕ) (P v : Tree) → LacksHead (preorder t) →
    Shows true ss i t P → LeftmostReduces P v → leftmost v ≡ None → ⊥
Endless {c = false} ts = (ss : List (ℕ × ℕ)) (i : ℕ) (Ps : List Tree) (f v : Tree) → IsNeutral f →
    LacksHead (preorder ts) → Shows true ss i ts Ps → LeftmostReduces (applied f Ps) v → leftmost v ≡ None → ⊥

endless_term : (l : ℕ) (x : HeadVar) (ts : Part false) → Endless ts → Endless (term l x ts)
endless_term l x ts up ss i P v h g r n =
    let head = variable_of ((i, l) ∷ ss) x in
    let e = within (abstracted l) (within_lam l) (after_head g.1 r n) n (applied head g.0) refl in
    up ((i, l) ∷ ss) (suc i) g.0 head e.last (variable_neutral ((i, l) ∷ ss) x) h g.2 e.leads e.normal

endless_more : (t : Part true) (ts : Part false) → Endless t → Endless ts → Endless (more t ts)
endless_more t ts up next_up ss i [] f v n h g r z = absurd g
endless_more t ts up next_up ss i (P ∷ Ps) f v n h g r z = by
    (within (λ P. applied (app f P) Ps) (within_arg f n Ps) r z P refl) (lacks_split (preorder t) (preorder ts) h)
  where
    by : Ended P v (λ P. applied (app f P) Ps) → LacksHead (preorder t) ⊎ LacksHead (preorder ts) → ⊥
    by e (inl k) = up ss i P e.last k g.0 e.leads e.normal
    by e (inr k) = next_up ss (i + length (preorder t)) Ps (app f e.last) v
        (record { plain = refl; none = arg_leftmost f e.last None n e.normal }) k g.1 e.rest z

endless : {c : Bool} (t : Part c) → Endless t
endless (term l v ts) = endless_term l v ts (endless ts)
endless lost = λ ss i P v h g r n. never (g refl) r n
endless cut = λ ss i P v h g r n. h
endless none = λ ss i Ps f v n h g r z. h
endless (more t ts) = endless_more t ts (endless t) (endless ts)

pub has_no_end : (t : Part true) (P v : Tree) → LacksHead (preorder t) → Shows true [] 0 t P →
    LeftmostReduces P v → leftmost v ≡ None → ⊥
has_no_end t P v h g r n = endless t [] 0 P v h g r n

-- a normal form has no leftmost redex
pub no_redex : (v : Tree) → ((at : List ℕ) → contracted v at ≡ None) → leftmost v ≡ None
no_redex v f = by (step_or_none v)
  where
    by : (leftmost v ≡ None) ⊎ ((u : Tree) × StepsTo v u) → leftmost v ≡ None
    by (inl e) = e
    by (inr k) = absurd (let e : Some k.0 ≡ None = sym k.1.gives ∙ f k.1.at in cc)
