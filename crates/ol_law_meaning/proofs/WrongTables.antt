-- Lines of the table of translation that would break the laws.
use Rattle.std.proofs.Common.{◌≡◌, ℕ, [], inl, inr, refl, ap, ◌∙◌, arith}
use Rattle.ol_net.specs.Nets.{free}
use Rattle.ol_term.specs.declared.translations.Translation.{Translation}
use Rattle.ol_term.specs.declared.translations.Translation.TheVariants.{One, Two}
use Rattle.ol_net.specs.declared.parts.Kind.TheVariants as kind
use Rattle.ol_context.specs.Contexts.{levels}
use Rattle.ol_context.specs.Paths.{inward, outward, Path, ends, goes}
use Rattle.ol_law_meaning.specs.Contraction.{Tree, Level, empty, o, star, Context, cons, tail, left, Place}
use Rattle.ol_law_meaning.specs.Contraction as term
use Rattle.ol_law_meaning.specs.Heads.{Steps, done, step, SameAlong, Spine, head_free, head_app, Normal, flat}
use Rattle.ol_law_meaning.specs.Tables.{without_bracket, BracketIsNeeded, doubled, net_of_doubled}
use Rattle.ol_law_meaning.specs.Tables.{bare_net_of_doubled, FanIsNotTurned}
use Rattle.ol_law_meaning.proofs.Endless.{normal_stops}

abbrev Asked : Context
Asked = cons (o empty) (levels [])

-- from the root, asked with one o, to y
to_y : Path without_bracket (free 0) Asked 1 (cons empty (cons empty Asked))
to_y =
    goes {d = cons (o (o empty)) (levels [])} {x = 0} {k = kind.App} {i = 0} {s = 1} {t = 0}
    (inl (inr (inr (inr (inr (inl refl)))))) (inl refl) (inward (omega arith) refl)
    (goes {d = Asked} {x = 1} {k = kind.Lam} {i = 0} {s = 0} {t = 1} (inl (inr (inr (inl refl))))
    (inr (inl refl)) (outward (omega arith) refl)
    (goes {d = cons empty Asked} {x = 2} {k = kind.Croissant} {i = 0} {s = 1} {t = 0}
    (inl (inl refl)) (inr (inr (inl refl))) (inward (omega arith) refl)
    (goes {d = cons (star empty) Asked} {x = 1} {k = kind.Lam} {i = 0} {s = 2} {t = 0}
    (inr (inr (inl refl))) (inr (inl refl)) (inward (omega arith) refl)
    (goes {d = cons empty Asked} {x = 0} {k = kind.App} {i = 0} {s = 0} {t = 2}
    (inr (inr (inr (inl refl)))) (inl refl) (outward (omega arith) refl)
    (goes {d = cons empty (cons empty Asked)} {x = 3} {k = kind.Croissant} {i = 1} {s = 1} {t = 0}
    (inl (inr (inr (inr (inl refl))))) (inr (inr (inr (inl refl)))) (inward (omega arith) refl)
    (ends (inr (inr (inr (inr (inr (inr (inl refl)))))))))))))

pub bracket_needed : BracketIsNeeded
bracket_needed = record {
  with_it = refl;
  without_it = λ f.
      let r = f 1 1 Asked (cons empty (cons empty Asked)) refl to_y in
      let e : o empty ≡ empty = ap (λ (d : Context). d 1) r.10 in
      absurd (cc);
}

-- from the root to y, by slot 2 of the fan
to_itself : Path (net_of_doubled 2 1) (free 0) (levels []) 1 (cons (star empty) (cons (o empty) (levels [])))
to_itself =
    goes {d = cons (o empty) (levels [])} {x = 0} {k = kind.App} {i = 0} {s = 1} {t = 0}
    (inl (inr (inr (inr (inr (inr (inl refl))))))) (inl refl) (inward (omega arith) refl)
    (goes {d = cons empty (cons (o empty)
    (levels []))} {x = 1} {k = kind.Croissant} {i = 0} {s = 1} {t = 0} (inl (inl refl))
    (inr (inl refl)) (inward (omega arith) refl)
    (goes {d = cons (star empty) (cons (o empty)
    (levels []))} {x = 4} {k = kind.Fan} {i = 0} {s = 2} {t = 0}
    (inr (inr (inr (inr (inl refl))))) (inr (inr (inr (inr (inl refl))))) (inward (omega arith) refl)
    (ends (inr (inr (inr (inr (inr (inr (inr (inl refl)))))))))))

bare_to_itself : Path (bare_net_of_doubled 2 1) (free 0) (levels []) 1 (cons (star empty) (cons (o empty) (levels [])))
bare_to_itself =
    goes {d = cons (o empty) (levels [])} {x = 0} {k = kind.App} {i = 0} {s = 1} {t = 0}
    (inl (inr (inr (inr (inl refl))))) (inl refl) (inward (omega arith) refl)
    (goes {d = cons empty (cons (o empty)
    (levels []))} {x = 1} {k = kind.Croissant} {i = 0} {s = 1} {t = 0} (inl (inl refl))
    (inr (inl refl)) (inward (omega arith) refl)
    (goes {d = cons (star empty) (cons (o empty)
    (levels []))} {x = 2} {k = kind.Fan} {i = 0} {s = 2} {t = 0} (inr (inr (inl refl)))
    (inr (inr (inl refl))) (inward (omega arith) refl)
    (ends (inr (inr (inr (inr (inr (inl refl)))))))))

spine_level : {y : term.Wire} {a : Level} {j : ℕ} → Spine doubled y a j → (b : Level) × (a ≡ o b)
spine_level (head_app {a = b} head_free e) = (b, e)

no_star : (τ : Translation) {u : Tree} {m : ℕ}
    (s : Steps doubled u m) {q : Place} {a : Level} {j : ℕ} → Normal u q a j → SameAlong τ s q (star empty) a → ⊥
no_star τ done (flat k) e = let l = spine_level k in let f : star empty ≡ o l.0 = e ∙ l.1 in absurd (cc)
no_star τ (step h s) k e = normal_stops (flat (head_app head_free refl)) h

pub fan_not_turned : FanIsNotTurned
fan_not_turned = record {
  straight = refl;
  turned = λ f.
      let r = f 1 0 (levels []) (cons (star empty) (cons (o empty) (levels []))) refl to_itself in
      no_star One r.2 r.6 r.7;
  bare_straight = refl;
  bare_turned = λ f.
      let r = f 1 0 (levels []) (cons (star empty) (cons (o empty) (levels []))) refl bare_to_itself in
      no_star Two r.2 r.6 r.7;
}
