-- Questions to a frame, one after another.
use Rattle.std.proofs.Common.{◌≡◌, ℕ, suc, ◌+◌, ◌<◌, ◌≤◌, List, [], ◌∷◌, ◌++◌, map, Option, Some, refl, sym, ap, ◌∙◌, subst, arith, append_assoc}
use Rattle.std.proofs.lemmas.List.{map-append}
use Rattle.std.specs.Prelude.{codes, ◌≢◌}
use Rattle.std.specs.Fmt.{decimal}
use Rattle.ol_net.specs.declared.parts.Port.TheVariants.{Free}
use Rattle.ol_net.specs.PartTexts.{port_text}
use Rattle.ol_net.specs.Nets.{NamedNet, free}
use Rattle.ol_context.specs.Contexts.{Level, empty, o, Context, levels}
use Rattle.ol_context.specs.Asked.{os, asked}
use Rattle.ol_context.specs.Short.{live}
use Rattle.ol_context.specs.Shapes.{value, AreHeld, Extends, IsNumberOf, context_of, IsHeld}
use Rattle.ol_context.proofs.Shapes.{map_more, extends_refl, extends_trans}
use Rattle.ol_decoding.specs.declared.trailing.Ending.{Ending}
use Rattle.ol_decoding.specs.declared.trailing.Ending.TheVariants.{Barred}
use Rattle.ol_decoding.specs.Lines.{IsWritten, question_line}
use Rattle.ol_decoding.specs.Trails.{IsFrameQuestion, AreQuestions, AreLinesOf}
use Rattle.ol_context.proofs.ValueLists.{held_append}
use Rattle.ol_decoding.specs.Trails as trails
use Rattle.ol_decoding.specs.AddedLines.{AddsContext, AddsTrail, AddsQuestion}

-- the context of a question
pub question_is : (vs : List Level) (ls ms : List ℕ) (n mark : ℕ) → ms ≡ ls ++ mark ∷ [] → value vs mark ≡ os n empty →
    context_of vs ms ≡ asked (map (value vs) ls) n
question_is vs ls ms n mark e m = ap (context_of vs) e ∙ ap levels (map-append (value vs) ls (mark ∷ [])
    ∙ ap (λ (v : Level). map (value vs) ls ++ v ∷ []) m)

eight : (old a b c d e f g h s t u v w x y z : List ℕ) → a ≡ old ++ s → b ≡ a ++ t → c ≡ b ++ u → d ≡ c ++ v →
    e ≡ d ++ w → f ≡ e ++ x → g ≡ f ++ y → h ≡ g ++ z → h ≡ old ++ ((s ++ (t ++ (u ++ (v ++ (w ++ (x ++ y)))))) ++ z)
eight old a b c d e f g h s t u v w x y z e1 e2 e3 e4 e5 e6 e7 e8 =
    rw (e8, e7, e6, e5, e4, e3, e2, e1) (simp append_assoc)

-- a line with the question, and the lines of its walk
pub question_put : (N : NamedNet ℕ) (port : ℕ) (ls : List Level) (n left : ℕ) (c : Context) (old a b d e f g h new : List ℕ)
    (end : Ending) (last : ℕ) → c ≡ asked ls n → a ≡ old ++ codes "asked " → b ≡ a ++ decimal n → d ≡ b ++ codes " " →
    e ≡ d ++ port_text (Free port) → f ≡ e ++ codes " " → AddsContext c f g → h ≡ g ++ codes "\n" →
    AddsTrail N (free port) c left h new end last → AddsQuestion N port ls n left old new end last
question_put N port ls n left c old a b d e f g h new end last i ta tb td te tf (w, W, tg) th (t, T, tn) = (
  question_line n port w ++ t,
  record {
    context = w;
    written = subst (λ c. IsWritten c w) i W;
    trail = t;
    walk = subst (λ c. trails.IsTrail N (free port) c left t end last) i T;
    text_is = refl;
  },
  eight old a b d e f g h new (codes "asked ") (decimal n) (codes " ") (port_text (Free port)) (codes " ") w (codes "\n") t
      ta tb td te tf tg th tn,
)

-- the questions so far, whatever is added behind them
pub record Questioning (N : NamedNet ℕ) (port : ℕ) (ls : List ℕ) (lines : ℕ) (first : List Level) (vs : List Level)
    (n mark left : ℕ) (text : List ℕ) : Type 0 where
  pub extends : Extends first vs
  pub mark_is : IsNumberOf vs mark (os n empty)
  pub on : (new rest : List ℕ) → AreQuestions N port (map (value first) ls) n left rest → new ≡ text ++ rest →
      AreQuestions N port (map (value first) ls) 0 lines new

module _ (N : NamedNet ℕ) (port : ℕ) (ls : List ℕ) (lines : ℕ) (first : List Level) (held : AreHeld first ls) (vs : List Level)
    (n mark left : ℕ) (text : List ℕ) (q : Questioning N port ls lines first vs n mark left text) (new : List ℕ)
    (e : Ending) (last : ℕ) (a : AddsQuestion N port (map (value vs) ls) n left text new e last) where
  own : AddsQuestion N port (map (value first) ls) n left text new e last
  own = subst (λ ls. AddsQuestion N port ls n left text new e last) (map_more first vs ls q.extends held) a

  pub is_answered : e ≢ Barred → AreQuestions N port (map (value first) ls) 0 lines new
  is_answered b = q.on new own.0 (trails.AreQuestions.answered own.1 b) own.2

  barred : e ≡ Barred → IsFrameQuestion N port (map (value first) ls) n left own.0 Barred last
  barred b = subst (λ e. IsFrameQuestion N port (map (value first) ls) n left own.0 e last) b own.1

  pub is_lost : e ≡ Barred → live N ≤ n → AreQuestions N port (map (value first) ls) 0 lines new
  is_lost b m = q.on new own.0 (trails.AreQuestions.lost (barred b) m) own.2

  pub asks_next : e ≡ Barred → n < live N → (new' rest : List ℕ) →
      AreQuestions N port (map (value first) ls) (suc n) last rest → new' ≡ new ++ rest →
      AreQuestions N port (map (value first) ls) 0 lines new'
  asks_next b m new' rest r t = q.on new' (own.0 ++ rest) (trails.AreQuestions.next (barred b) m r)
      (t ∙ ap (λ (x : List ℕ). x ++ rest) own.2 ∙ append_assoc text own.0 rest)

-- one mark more
pub mark_more : (vs ws : List Level) (mark w n : ℕ) → IsNumberOf vs mark (os n empty) → IsNumberOf ws w (o (value vs mark)) →
    IsNumberOf ws w (os (n + 1) empty)
mark_more vs ws mark w n h x = record {
  held = x.held;
  is = x.is ∙ ap o h.is ∙ ap (λ (m : ℕ). os m empty) (let e : suc n ≡ n + 1 = omega arith in e);
}

pub questions_begin : (N : NamedNet ℕ) (port : ℕ) (ls : List ℕ) (lines : ℕ) (vs : List Level) (mark : ℕ) (text : List ℕ) →
    IsNumberOf vs mark empty → text ≡ [] → Questioning N port ls lines vs vs 0 mark lines text
questions_begin N port ls lines vs mark text m e = record {
  extends = extends_refl vs;
  mark_is = m;
  on = λ new rest r t. subst (λ (x : List ℕ). AreQuestions N port (map (value vs) ls) 0 lines x)
      (sym (t ∙ ap (λ (x : List ℕ). x ++ rest) e)) r;
}

pub questions_on : (N : NamedNet ℕ) (port : ℕ) (ls : List ℕ) (lines : ℕ) (first : List Level) → AreHeld first ls →
    (vs : List Level) (n mark left : ℕ) (text : List ℕ) → Questioning N port ls lines first vs n mark left text →
    (new : List ℕ) (e : Ending) (last : ℕ) → AddsQuestion N port (map (value vs) ls) n left text new e last → e ≡ Barred →
    n < live N → (us ws : List Level) → Extends vs us → Extends us ws → (w : ℕ) →
    IsNumberOf ws w (o (value us mark)) → Questioning N port ls lines first ws (n + 1) w last new
questions_on N port ls lines first held vs n mark left text q new e last a b m us ws x y w z = record {
  extends = extends_trans first vs ws q.extends (extends_trans vs us ws x y);
  mark_is = record {
    held = z.held;
    is = z.is ∙ ap o (x.same mark q.mark_is.held ∙ q.mark_is.is) ∙ ap (λ (m : ℕ). os m empty) (let i : suc n ≡ n + 1 = omega arith in i);
  };
  on = λ new' rest r t. asks_next N port ls lines first held vs n mark left text q new e last a b m new' rest
      (subst (λ (i : ℕ). AreQuestions N port (map (value first) ls) i last rest) (let i : n + 1 ≡ suc n = omega arith in i) r) t;
}

pub held_question : (vs : List Level) (ls ms : List ℕ) (mark : ℕ) → AreHeld vs ls → IsHeld vs mark → ms ≡ ls ++ mark ∷ [] →
    AreHeld vs ms
held_question vs ls ms mark h m e = subst (λ (ns : List ℕ). AreHeld vs ns) (sym e) (held_append vs ls (mark ∷ []) h (m, tt))

-- one question alone
pub chosen : (N : NamedNet ℕ) (port : ℕ) (ls : List ℕ) (first vs : List Level) → AreHeld first ls → Extends first vs →
    (question : Option ℕ) (n lines : ℕ) (old new : List ℕ) (e : Ending) (last : ℕ) → question ≡ Some n → old ≡ [] →
    AddsQuestion N port (map (value vs) ls) n lines old new e last →
    AreLinesOf N port (map (value first) ls) question lines new
chosen N port ls first vs h x question n lines old new e last q z a =
    let b = subst (λ ls. AddsQuestion N port ls n lines old new e last) (map_more first vs ls x h) a in
    subst (λ (o : Option ℕ). AreLinesOf N port (map (value first) ls) o lines new) (sym q) (
      e,
      last,
      subst (λ (y : List ℕ). IsFrameQuestion N port (map (value first) ls) n lines y e last)
          (sym (b.2 ∙ ap (λ (y : List ℕ). y ++ b.0) z)) b.1,
    )
