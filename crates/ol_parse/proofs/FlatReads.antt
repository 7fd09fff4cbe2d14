-- The flat state of the reader, over a text.
use Rattle.std.proofs.Common.{◌≡◌, ℕ, ◌+◌, ◌<◌, ◌≤◌, List, [], ◌∷◌, map, take, get_or, length, Bool}
use Rattle.std.proofs.Common.{true, false, Option, Some, None, option_and_then, slice_range, refl}
use Rattle.std.proofs.Common.{sym, ap, ◌∙◌, subst, arith, IfSome}
use Rattle.std.proofs.Math.Seq.{take-length}
use Rattle.ol_parse.specs.Grammar.{Named}
use Rattle.ol_parse.specs.Texts.{IsText, IsDeadPlace, token_of}
use Rattle.ol_parse.specs.Machine.{State, step, final}
use Rattle.ol_parse.specs.Reading.{Reading, gap, comment, word, half, start, byte_step, byte_final, read}
use Rattle.ol_parse.specs.Flat.{built, Holds, Next, bare}
use Rattle.ol_parse.specs.FlatBytes.{from_of, Stands, NextPlace, EndsIn}
use Rattle.ol_parse.specs.declared.flat.Op.{Op}
use Rattle.ol_parse.specs.declared.flat.Open.{Open}
use Rattle.ol_parse.specs.declared.flat.Mode.{Mode}
use Rattle.ol_parse.specs.declared.flat.Mode.TheVariants.{Term}
use Rattle.ol_parse.specs.declared.bytes.Place.{Place}
use Rattle.ol_parse.specs.declared.bytes.Place.TheVariants.{Gap, Word}
use Rattle.ol_parse.proofs.Whole.{read_more, dead_at, dead_end, whole_text}

after_step : (o : Option State) (m : Mode) (opens : List Open) (mid ops : List Op) (answer : Bool) →
    Next o (Some m) opens mid → ((q : State) → Holds q m opens mid → EndsIn (final q) answer ops) →
    EndsIn (option_and_then final o) answer ops
after_step None m opens mid ops answer h each = absurd h
after_step (Some q) m opens mid ops answer h each = each q h

-- the end behind a word
pub word_end : (text : List ℕ) (from : ℕ) (m n : Mode) (opens opens' : List Open)
    (old mid ops : List Op) (answer : Bool) (place : Place) → place ≡ Word from →
    (found : Option Mode) → found ≡ Some n →
    ((p : State) → Holds p m opens old →
    Next (step p (token_of (slice_range text from (length text)))) found opens' mid) →
    ((q : State) → Holds q n opens' mid → EndsIn (final q) answer ops) → (s : Reading) →
    Stands text (length text) s place m opens old → EndsIn (byte_final s) answer ops
word_end text from m n opens opens' old mid ops answer place e found f took ended s h = go s
    (subst (λ w. Stands text (length text) s w m opens old) e h)
  where
    go : (s : Reading) → Stands text (length text) s (Word from) m opens old → EndsIn (byte_final s) answer ops
    go (word w p) (i, h) = after_step (step p (token_of w)) n opens' mid ops answer
        (subst (λ w. Next (step p (token_of w)) (Some n) opens' mid) (sym i)
        (subst (λ y. Next (step p (token_of (slice_range text from (length text)))) y opens' mid) f (took p h))) ended
    go (gap p) h = absurd h
    go (comment p) h = absurd h
    go (half p) h = absurd h

-- the bytes before this place are read, and the flat state stands for where they lead
pub record Reads (text : List ℕ) (at : ℕ) (place : Place) (m : Mode) (opens : List Open) (ops : List Op) : Type 0 where
  pub state : Reading
  pub so_far : read start (take at text) ≡ Some state
  pub stands : Stands text at state place m opens ops
  pub begun : from_of place ≤ at

pub first : (text : List ℕ) (opens : List Open) (ops : List Op) → opens ≡ [] → ops ≡ [] →
    Reads text 0 Gap (Term false) opens ops
first text opens ops e i = record {
  state = start;
  so_far = refl;
  stands = record { mode = refl; shows = ap (map bare) e; terms = ap built i };
  begun = omega arith;
}

some_next : (text : List ℕ) (n : ℕ) (o : Option Reading) (place : Place) (m : Mode)
    (opens : List Open) (ops : List Op) → NextPlace text n o (Some (place, m)) opens ops →
    (s : Reading) × (o ≡ Some s) × Stands text n s place m opens ops
some_next text n None place m opens ops h = absurd h
some_next text n (Some s) place m opens ops h = (s, refl, h)

none_next : (text : List ℕ) (n : ℕ) (o : Option Reading) (opens : List Open) (ops : List Op) →
    NextPlace text n o None opens ops → o ≡ None
none_next text n None opens ops h = refl
none_next text n (Some s) opens ops h = absurd h

module _ (text : List ℕ) (n : ℕ) (place : Place) (m : Mode) (opens : List Open) (ops : List Op)
    (r : Reads text n place m opens ops) where
  pub one_more : n < length text → (place' : Place) (m' : Mode) (opens' : List Open)
      (ops' : List Op) (next : Option (Place × Mode)) → next ≡ Some (place', m') →
      IfSome next (λ x. from_of x.0 ≤ n) →
      ((s : Reading) → Stands text n s place m opens ops →
      NextPlace text (n + 1) (byte_step s (get_or text n 0)) next opens' ops') →
      Reads text (n + 1) place' m' opens' ops'
  one_more b place' m' opens' ops' next i f each =
      let (s, e, h) = some_next text (n + 1)
      (byte_step r.state (get_or text n 0)) place' m' opens' ops'
      (subst (λ y. NextPlace text (n + 1) (byte_step r.state (get_or text n 0)) y opens' ops') i
      (each r.state r.stands)) in
      let g : from_of place' ≤ n = subst (λ y. IfSome y (λ (x : Place × Mode). from_of x.0 ≤ n)) i f in
      record { state = s; so_far = read_more text n r.state (Some s) b r.so_far e; stands = h; begun = omega arith }

  pub dies : n < length text → (opens' : List Open) (ops' : List Op)
      (next : Option (Place × Mode)) → next ≡ None →
      ((s : Reading) → Stands text n s place m opens ops →
      NextPlace text (n + 1) (byte_step s (get_or text n 0)) next opens' ops') →
      ((t : Named) → IsText text t → ⊥) × IsDeadPlace text n
  dies b opens' ops' next i each = dead_at text n r.state b r.so_far
      (none_next text (n + 1) (byte_step r.state (get_or text n 0)) opens' ops'
      (subst (λ y. NextPlace text (n + 1) (byte_step r.state (get_or text n 0)) y opens' ops') i
      (each r.state r.stands)))

some_end : (o : Option Named) (ops : List Op) → EndsIn o true ops →
    (t : Named) × (o ≡ Some t) × (built ops ≡ Some (t ∷ []))
some_end None ops h = absurd h
some_end (Some t) ops h = (t, refl, h)

none_end : (o : Option Named) (ops : List Op) → EndsIn o false ops → o ≡ None
none_end None ops h = refl
none_end (Some t) ops h = absurd h

module _ (text : List ℕ) (n : ℕ) (place : Place) (m : Mode) (opens : List Open) (ops : List Op)
    (r : Reads text n place m opens ops) (last : n ≡ length text) where
  all_read : read start text ≡ Some r.state
  all_read = ap (read start) (sym (take-length text) ∙ ap (λ k. take k text) (sym last)) ∙ r.so_far

  pub is_whole : (ops' : List Op) (answer : Bool) → answer ≡ true →
      ((s : Reading) → Stands text (length text) s place m opens ops →
      EndsIn (byte_final s) answer ops') → (t : Named) × IsText text t × (built ops' ≡ Some (t ∷ []))
  is_whole ops' answer i each =
      let (t, e, h) = some_end (byte_final r.state) ops'
      (subst (λ y. EndsIn (byte_final r.state) y ops') i
      (each r.state (subst (λ k. Stands text k r.state place m opens ops) last r.stands))) in
      (t, whole_text text r.state t all_read e, h)

  pub breaks_off : (ops' : List Op) (answer : Bool) → answer ≡ false →
      ((s : Reading) → Stands text (length text) s place m opens ops →
      EndsIn (byte_final s) answer ops') → ((t : Named) → IsText text t → ⊥) × IsDeadPlace text (length text)
  breaks_off ops' answer i each = dead_end text r.state all_read
      (none_end (byte_final r.state) ops' (subst (λ y. EndsIn (byte_final r.state) y ops') i
      (each r.state (subst (λ k. Stands text k r.state place m opens ops) last r.stands))))
