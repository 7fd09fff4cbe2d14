-- Texts by the machine: exactly those that it takes, and the dead place.
use Rattle.std.proofs.Common.{◌≡◌, ℕ, ◌+◌, ◌<◌, ◌≤◌, List, [], ◌∷◌, ◌++◌, take, drop, get_or}
use Rattle.std.proofs.Common.{length, Option, Some, None, option_and_then, refl, sym, ap, ◌∙◌}
use Rattle.std.proofs.Common.{subst, arith, append-nil, inl, inr, take-append-drop, take-take}
use Rattle.std.proofs.lemmas.List.{take_more}
use Rattle.std.proofs.lemmas.Bool.{cases_lt}
use Rattle.std.proofs.Math.Seq.{take-length}
use Rattle.ol_parse.specs.Grammar.{Named}
use Rattle.ol_parse.specs.Texts.{IsText, BeginsText, IsDeadPlace}
use Rattle.ol_parse.specs.Machine.{at}
use Rattle.ol_parse.proofs.Complete.{complete}
use Rattle.ol_parse.proofs.Sound.{sound}
use Rattle.ol_parse.specs.Reading.{start, Reading, byte_step, byte_final, takes, read}
use Rattle.ol_parse.proofs.Parts.{takes_both, read_both}
use Rattle.ol_parse.proofs.Spelled.{spelled}
use Rattle.ol_parse.proofs.Spelling.{spelling}
use Rattle.ol_parse.proofs.Viable.{completed, live_read}

-- a text is taken, with its term
pub text_taken : (bytes : List ℕ) (t : Named) → IsText bytes t → takes start bytes ≡ Some t
text_taken bytes t i = spelled i.spelled (at None []) ∙ complete i.term

-- what is taken is a text
pub taken_text : (bytes : List ℕ) (t : Named) → takes start bytes ≡ Some t → IsText bytes t
taken_text bytes t h = let s = spelling t bytes (at None []) h in
    record { tokens = s.tokens; spelled = s.spells; term = sound t s.tokens s.accepted }

pub one_term : (bytes : List ℕ) (t u : Named) → IsText bytes t → IsText bytes u → t ≡ u
one_term bytes t u i j = let e = text_taken bytes t i in let f = text_taken bytes u j in cc

-- what is read begins a text
pub read_begins : (bytes : List ℕ) (s : Reading) → read start bytes ≡ Some s → BeginsText bytes
read_begins bytes s h =
    let c = completed s (live_read bytes s start tt h) in
    record {
      rest = c.rest;
      whole = c.whole;
      text = taken_text (bytes ++ c.rest) c.whole
          (takes_both start bytes c.rest ∙ ap (option_and_then (λ s. takes s c.rest)) h ∙ c.taken);
    }

-- what is dead begins none
pub dead_begins : (bytes : List ℕ) → read start bytes ≡ None → BeginsText bytes → ⊥
dead_begins bytes h b =
    let e = text_taken (bytes ++ b.rest) b.whole b.text in
    let f = takes_both start bytes b.rest ∙ ap (option_and_then (λ s. takes s b.rest)) h in
    cc

-- one more byte
pub read_more : (text : List ℕ) (n : ℕ) (s : Reading) (r : Option Reading) → n < length text →
    read start (take n text) ≡ Some s → byte_step s (get_or text n 0) ≡ r → read start (take (n + 1) text) ≡ r
read_more text n s r h e i =
    ap (read start) (take_more text n 0 h) ∙ read_both start (take n text) (get_or text n 0 ∷ [])
    ∙ ap (option_and_then (λ s. read s (get_or text n 0 ∷ []))) e ∙ step_only (byte_step s (get_or text n 0)) ∙ i
  where
    step_only : (o : Option Reading) → option_and_then (λ s. read s []) o ≡ o
    step_only None = refl
    step_only (Some s) = refl

-- what is dead stays dead
pub dead_more : (bytes more : List ℕ) → read start bytes ≡ None → read start (bytes ++ more) ≡ None
dead_more bytes more h = read_both start bytes more ∙ ap (option_and_then (λ s. read s more)) h

take_parts : (n m : ℕ) (text : List ℕ) → n ≤ m → take m text ≡ take n text ++ drop n (take m text)
take_parts n m text h = sym (take-append-drop n (take m text))
    ∙ ap (λ l. l ++ drop n (take m text)) (take-take n m text h)

no_text : (bytes : List ℕ) (t : Named) → takes start bytes ≡ None → IsText bytes t → ⊥
no_text bytes t h i = let e = text_taken bytes t i in cc

-- the byte at this place is dead
pub dead_at : (text : List ℕ) (n : ℕ) (s : Reading) → n < length text →
    read start (take n text) ≡ Some s → byte_step s (get_or text n 0) ≡ None →
    ((t : Named) → IsText text t → ⊥) × IsDeadPlace text n
dead_at text n s h e d =
    let dead : read start (take (n + 1) text) ≡ None = read_more text n s None h e d in
    let all : takes start text ≡ None = ap (takes start) (sym (take-append-drop (n + 1) text))
    ∙ takes_both start (take (n + 1) text) (drop (n + 1) text)
    ∙ ap (option_and_then (λ s. takes s (drop (n + 1) text))) dead in (
      λ t i. no_text text t all i,
      record {
        within = omega arith;
        alive = read_begins (take n text) s e;
        longest = λ m b i. elim (cases_lt n m) [
          | inr l ↦ l
          | inl l ↦ absurd
              (dead_begins (take m text) (ap (read start) (take_parts (n + 1) m text (omega arith))
              ∙ dead_more (take (n + 1) text) (drop (n + 1) (take m text)) dead) i)
        ];
      },
    )

-- the text breaks off
pub dead_end : (text : List ℕ) (s : Reading) → read start text ≡ Some s → byte_final s ≡ None →
    ((t : Named) → IsText text t → ⊥) × IsDeadPlace text (length text)
dead_end text s e d =
    let all : takes start text ≡ None = ap (takes start) (sym (append-nil text))
    ∙ takes_both start text [] ∙ ap (option_and_then (λ s. takes s [])) e ∙ d in (
      λ t i. no_text text t all i,
      record {
        within = omega arith;
        alive = subst BeginsText (sym (take-length text)) (read_begins text s e);
        longest = λ m b i. b;
      },
    )

-- the text is whole
pub whole_text : (text : List ℕ) (s : Reading) (t : Named) → read start text ≡ Some s →
    byte_final s ≡ Some t → IsText text t
whole_text text s t e d = taken_text text t
    (ap (takes start) (sym (append-nil text)) ∙ takes_both start text [] ∙ ap (option_and_then (λ s. takes s [])) e ∙ d)
