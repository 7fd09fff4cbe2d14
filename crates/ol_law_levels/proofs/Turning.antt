-- Where no facing pair is crossed a walk from a free port turns once: first down, then up.
-- Used in Heads.
use Rattle.std.proofs.Common.{◌≡◌, ℕ, suc, ◌+◌, ◌<◌, ◌⊎◌, List, [], ◌∷◌, ◌++◌, map, length, inl}
use Rattle.std.proofs.Common.{inr, refl, sym, ap, ◌∙◌, subst, arith, append_assoc, append-nil}
use Rattle.std.proofs.lemmas.List.{map-append, length-append}
use Rattle.ol_law_edges.specs.Edges.{IsIn}
use Rattle.ol_net.specs.declared.parts.Kind.{Kind}
use Rattle.ol_net.specs.Parts.{arity}
use Rattle.ol_net.specs.Nets.{NamedNet, NamedPort, free, slot, HasNode, Linked, IsNet}
use Rattle.ol_context.specs.Contexts.{Context, up}
use Rattle.ol_context.specs.Paths.{inward, outward}
use Rattle.ol_context.specs.Ways.{Way, start, on}
use Rattle.ol_context.specs.Short.{IsOnce, entries, principal, auxiliary, TurnsOnce}
use Rattle.ol_context.proofs.Turning.{in_last, once_more}
use Rattle.ol_law_levels.proofs.Climbs.{Rose, IsLive, Down, first, next, down_one}

-- where a walk came up through a node, no facing node lets it pass
abbrev pub NeverFalls : {A : Type 0} → NamedNet A → Type 0
NeverFalls {A} N = (x y : A) (c : Context) → Rose N x c → Linked N (slot x 0) (slot y 0) →
    (k : Kind) (i t : ℕ) (d : Context) → HasNode N y k i → t < arity k → up k i t d ≡ c → ⊥

module _ {A : Type 0} (N : NamedNet A) (is_net : IsNet N) (never : NeverFalls N) (p : ℕ) where
  record Earlier (n : ℕ) (z : A) : Type 0 where
    at : ℕ
    less : at < n
    down : Down N is_net p at z

  -- slots 0 alone were entered
  record Falling (n : ℕ) (u : NamedPort A) (ps : List (NamedPort A)) : Type 0 where
    down : List A
    are : ps ≡ map principal down
    long : length down ≡ n
    once : IsOnce down
    lives : (z : A) → IsIn z down → IsLive N is_net z
    earlier : (z : A) → IsIn z down → Earlier n z
    onward : (y : A) → Linked N u (slot y 0) → Down N is_net p n y

  -- the last one was left by slot 0, with this context
  record Rising (u : NamedPort A) (c : Context) (ps : List (NamedPort A)) : Type 0 where
    turned : TurnsOnce ps
    node : A
    at : u ≡ slot node 0
    rose : Rose N node c

  data Stage (n : ℕ) (u : NamedPort A) (c : Context) (ps : List (NamedPort A)) : Type 0 where
    falls : Falling n u ps → Stage n u c ps
    rises : Rising u c ps → Stage n u c ps

  is_live : (y : A) (k : Kind) (i : ℕ) → HasNode N y k i → IsLive N is_net y
  is_live y k i h = (k, i, h)

  fall : (n : ℕ) (u : NamedPort A) (ps : List (NamedPort A)) (x : A) (t : ℕ) → IsLive N is_net x →
      Linked N u (slot x 0) → Falling n u ps →
      Falling (suc n) (slot x (suc t)) (ps ++ slot x 0 ∷ [])
  fall n u ps x t h l f = record {
    down = f.down ++ x ∷ [];
    are = ap (λ r. r ++ slot x 0 ∷ []) f.are ∙ sym (map-append principal f.down (x ∷ []));
    long = (let a : length (f.down ++ x ∷ []) ≡ length f.down + 1 =
        length-append f.down (x ∷ []) in let b = f.long in omega arith);
    once = once_more x f.down f.once fresh;
    lives = lives;
    earlier = earlier;
    onward = λ y l'. next t (f.onward x l) l';
  }
    where
      fresh : IsIn x f.down → ⊥
      fresh k = let e = f.earlier x k in let b = e.less in let q =
          down_one N is_net p e.down (f.onward x l) refl in omega arith

      lives : (z : A) → IsIn z (f.down ++ x ∷ []) → IsLive N is_net z
      lives z k = go (in_last z x f.down k)
        where
          go : IsIn z f.down ⊎ (z ≡ x) → IsLive N is_net z
          go (inl k) = f.lives z k
          go (inr e) = subst (IsLive N is_net) (sym e) h

      earlier : (z : A) → IsIn z (f.down ++ x ∷ []) → Earlier (suc n) z
      earlier z k = go (in_last z x f.down k)
        where
          go : IsIn z f.down ⊎ (z ≡ x) → Earlier (suc n) z
          go (inl k) = let e = f.earlier z k in let b = e.less in
              record { at = e.at; less = omega arith; down = e.down }
          go (inr e) = subst (λ z. Earlier (suc n) z) (sym e) (record {
            at = n;
            less =
                omega arith;
            down = f.onward x l;
          })

  turns : (n : ℕ) (u : NamedPort A) (c : Context) (ps : List (NamedPort A)) → Stage n u c ps →
      TurnsOnce ps
  turns n u c ps (falls f) = record {
    down = f.down;
    up = [];
    are = f.are
        ∙ sym (append-nil (map principal f.down));
    once = f.once;
  }
  turns n u c ps (rises r) = r.turned

  turn_on : (ps : List (NamedPort A)) (x : A) (s : ℕ) → TurnsOnce ps →
      TurnsOnce (ps ++ slot x (suc s) ∷ [])
  turn_on ps x s t = record {
    down = t.down;
    up = t.up ++ (x, s) ∷ [];
    are = ap (λ r. r ++ slot x (suc s) ∷ []) t.are
        ∙ append_assoc (map principal t.down) (map auxiliary t.up) (slot x (suc s) ∷ [])
        ∙ ap (λ r. map principal t.down ++ r) (sym (map-append auxiliary t.up ((x, s) ∷ [])));
    once = t.once;
  }

  stage : {c : Context} {n : ℕ} {u : NamedPort A} {d : Context} (w : Way N (free p) c n u d) →
      Stage n u d (entries w)
  stage start = falls (record {
    down = [];
    are = refl;
    long = refl;
    once = tt;
    lives =
        λ z k. absurd k;
    earlier = λ z k. absurd k;
    onward = λ y l. first l;
  })
  stage (on {n = n} {u = u} {d = d} {x = x} {k = k} {i = i} w l h (inward {s = s} b e)) =
      rises (record {
        turned = turn_on (entries w) x s (turns n u d (entries w) (stage w));
        node =
            x;
        at = refl;
        rose = record {
          k = k;
          i = i;
          s = s;
          b = d;
          node = h;
          low = b;
          crosses =
              e;
        };
      })
  stage (on {n = n} {u = u} {d = d} {e = z} {x = x} {k = k} {i = i} w l h (outward {s = t} b e)) =
      go (stage w)
    where
      go : Stage n u d (entries w) → Stage (suc n) (slot x (suc t)) z (entries w ++ slot x 0 ∷ [])
      go (falls f) = falls (fall n u (entries w) x t (is_live x k i h) l f)
      go (rises r) = absurd (never r.node x d r.rose (subst (λ u. Linked N u (slot x 0)) r.at l) k
          i t z h b e)

  pub turns_once : {c : Context} {n : ℕ} {u : NamedPort A} {d : Context}
      (w : Way N (free p) c n u d) → TurnsOnce (entries w)
  turns_once {n = n} {u = u} {d = d} w = turns n u d (entries w) (stage w)
