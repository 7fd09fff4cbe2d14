-- What is seen of a text stands for the states of the machine that reads it.
use Rattle.std.proofs.Common.{◌≡◌, ℕ, List, [], ◌∷◌, ◌++◌, map, Bool, true, false, cond, nat_eq, Option, Some, None, refl, ap, ◌∙◌}
use Rattle.std.specs.Prelude.{option_and_then}
use Rattle.std.specs.Option.{option_map}
use Rattle.ol_parse.specs.Grammar as grammar
use Rattle.ol_parse.specs.Grammar.{Named, var, Token, name, let_key, in_key, lambda, dot, equals, open_bracket, close_bracket}
use Rattle.ol_parse.specs.Texts.{Class, blank, hash, letter, digit, sign, lead, other, class_of, in_word, token_of, is_word, IsText}
use Rattle.ol_parse.specs.Machine as machine
use Rattle.ol_parse.specs.Machine.{State, step, final}
use Rattle.ol_parse.specs.Reading as reads
use Rattle.ol_parse.specs.Reading.{Reading, takes_name, gap_step, byte_step, byte_final, takes}
use Rattle.ol_parse.proofs.Spelling.{sign_no_word}
use Rattle.ol_parse.proofs.Whole.{text_taken}
use Rattle.ol_steps.specs.Binders.{Binders, binders_of}
use Rattle.ol_steps.specs.Sights.{Frame, applied, abstracted, bound, bracket, defining, Sight, at, naming, let_name}
use Rattle.ol_steps.specs.Sights.{join, finish, closed, defined, if_whole, take, result_of}
use Rattle.ol_steps.specs.Looks.{Look, gap, comment, word, half, kind_of, gap_look, byte_look, last, sees}

abbrev frame : machine.Frame → Frame
frame (machine.applied o) = applied (option_map binders_of o)
frame (machine.abstracted x) = abstracted x
frame (machine.bound x d) = bound x (binders_of d)
frame (machine.bracket o) = bracket (option_map binders_of o)
frame (machine.defining x) = defining x

abbrev image : State → Sight
image (machine.at o fs) = at (option_map binders_of o) (map frame fs)
image (machine.first_name fs) = naming (map frame fs)
image (machine.more_names fs) = naming (map frame fs)
image (machine.let_name fs) = let_name (map frame fs)
image (machine.let_equals x fs) = at None (defining x ∷ map frame fs)

-- ---- tokens

join_image : (o : Option Named) (t : Named) → join (option_map binders_of o) (binders_of t) ≡ binders_of (machine.join o t)
join_image None t = refl
join_image (Some f) t = refl

abbrev both : Named × List machine.Frame → Binders × List Frame
both p = (binders_of p.0, map frame p.1)

finish_image : (u : Named) (fs : List machine.Frame) → finish (binders_of u) (map frame fs) ≡ both (machine.finish u fs)
finish_image u [] = refl
finish_image u (machine.applied None ∷ fs) = finish_image u fs
finish_image u (machine.applied (Some f) ∷ fs) = finish_image (machine.join (Some f) u) fs
finish_image u (machine.abstracted x ∷ fs) = finish_image (grammar.lam x u) fs
finish_image u (machine.bound x d ∷ fs) =
    finish_image (grammar.app (grammar.lam x u) d) fs
finish_image u (machine.bracket o ∷ fs) = refl
finish_image u (machine.defining x ∷ fs) = refl

-- what is one state is its image
of_some : (p q : State) → Some p ≡ Some q → image p ≡ image q
of_some p q e = let same : p ≡ q = cc in ap image same

closed_image : (u : Named) (fs : List machine.Frame) (q : State) → machine.at_close (u, fs) ≡ Some q →
    closed (binders_of u, map frame fs) ≡ image q
closed_image u [] q e = absurd (cc)
closed_image u (machine.applied o ∷ fs) q e = absurd (cc)
closed_image u (machine.abstracted x ∷ fs) q e = absurd (cc)
closed_image u (machine.bound x d ∷ fs) q e = absurd (cc)
closed_image u (machine.bracket o ∷ fs) q e =
    ap (λ (s : Binders). at (Some s) (map frame fs)) (join_image o u)
    ∙ of_some (machine.at (Some (machine.join o u)) fs) q e
closed_image u (machine.defining x ∷ fs) q e = absurd (cc)

defined_image : (u : Named) (fs : List machine.Frame) (q : State) → machine.at_in (u, fs) ≡ Some q →
    defined (binders_of u, map frame fs) ≡ image q
defined_image u [] q e = absurd (cc)
defined_image u (machine.applied o ∷ fs) q e = absurd (cc)
defined_image u (machine.abstracted x ∷ fs) q e = absurd (cc)
defined_image u (machine.bound x d ∷ fs) q e = absurd (cc)
defined_image u (machine.bracket o ∷ fs) q e = absurd (cc)
defined_image u (machine.defining x ∷ fs) q e = of_some (machine.at None (machine.bound x u ∷ fs)) q e

close_image : (o : Option Named) (fs : List machine.Frame) (q : State) →
    machine.if_some o (λ f. machine.at_close (machine.finish f fs)) ≡ Some q →
    if_whole (option_map binders_of o) (map frame fs) closed ≡ image q
close_image None fs q e = absurd (cc)
close_image (Some f) fs q e =
    ap closed (finish_image f fs) ∙ closed_image (machine.finish f fs).0 (machine.finish f fs).1 q e

in_image : (o : Option Named) (fs : List machine.Frame) (q : State) →
    machine.if_some o (λ f. machine.at_in (machine.finish f fs)) ≡ Some q →
    if_whole (option_map binders_of o) (map frame fs) defined ≡ image q
in_image None fs q e = absurd (cc)
in_image (Some f) fs q e =
    ap defined (finish_image f fs) ∙ defined_image (machine.finish f fs).0 (machine.finish f fs).1 q e

step_image : (p : State) (k : Token) (q : State) → step p k ≡ Some q → take (image p) k ≡ image q
step_image (machine.at o fs) (name x) q e =
    ap (λ (s : Binders). at (Some s) (map frame fs)) (join_image o (var x))
    ∙ of_some (machine.at (Some (machine.join o (var x))) fs) q e
step_image (machine.at o fs) open_bracket q e = of_some (machine.at None (machine.bracket o ∷ fs)) q e
step_image (machine.at o fs) lambda q e = of_some (machine.first_name (machine.applied o ∷ fs)) q e
step_image (machine.at o fs) let_key q e = of_some (machine.let_name (machine.applied o ∷ fs)) q e
step_image (machine.at o fs) close_bracket q e = close_image o fs q e
step_image (machine.at o fs) in_key q e = in_image o fs q e
step_image (machine.at o fs) dot q e = absurd (cc)
step_image (machine.at o fs) equals q e = absurd (cc)
step_image (machine.first_name fs) (name x) q e = of_some (machine.more_names (machine.abstracted x ∷ fs)) q e
step_image (machine.first_name fs) open_bracket q e = absurd (cc)
step_image (machine.first_name fs) lambda q e = absurd (cc)
step_image (machine.first_name fs) let_key q e = absurd (cc)
step_image (machine.first_name fs) close_bracket q e = absurd (cc)
step_image (machine.first_name fs) in_key q e = absurd (cc)
step_image (machine.first_name fs) dot q e = absurd (cc)
step_image (machine.first_name fs) equals q e = absurd (cc)
step_image (machine.more_names fs) (name x) q e = of_some (machine.more_names (machine.abstracted x ∷ fs)) q e
step_image (machine.more_names fs) open_bracket q e = absurd (cc)
step_image (machine.more_names fs) lambda q e = absurd (cc)
step_image (machine.more_names fs) let_key q e = absurd (cc)
step_image (machine.more_names fs) close_bracket q e = absurd (cc)
step_image (machine.more_names fs) in_key q e = absurd (cc)
step_image (machine.more_names fs) dot q e = of_some (machine.at None fs) q e
step_image (machine.more_names fs) equals q e = absurd (cc)
step_image (machine.let_name fs) (name x) q e = of_some (machine.let_equals x fs) q e
step_image (machine.let_name fs) open_bracket q e = absurd (cc)
step_image (machine.let_name fs) lambda q e = absurd (cc)
step_image (machine.let_name fs) let_key q e = absurd (cc)
step_image (machine.let_name fs) close_bracket q e = absurd (cc)
step_image (machine.let_name fs) in_key q e = absurd (cc)
step_image (machine.let_name fs) dot q e = absurd (cc)
step_image (machine.let_name fs) equals q e = absurd (cc)
step_image (machine.let_equals x fs) equals q e = of_some (machine.at None (machine.defining x ∷ fs)) q e
step_image (machine.let_equals x fs) (name y) q e = absurd (cc)
step_image (machine.let_equals x fs) open_bracket q e = absurd (cc)
step_image (machine.let_equals x fs) lambda q e = absurd (cc)
step_image (machine.let_equals x fs) let_key q e = absurd (cc)
step_image (machine.let_equals x fs) close_bracket q e = absurd (cc)
step_image (machine.let_equals x fs) in_key q e = absurd (cc)
step_image (machine.let_equals x fs) dot q e = absurd (cc)

-- ---- bytes

abbrev view : Reading → Look
view (reads.gap p) = gap (image p)
view (reads.comment p) = comment (image p)
view (reads.word w p) = word w (image p)
view (reads.half p) = half (image p)

of_read : (r s : Reading) → Some r ≡ Some s → view r ≡ view s
of_read r s e = let same : r ≡ s = cc in ap view same

sign_gap : (p : State) (k : Token) (o : Option State) → step p k ≡ o → (r : Reading) →
    option_map reads.gap o ≡ Some r → gap (take (image p) k) ≡ view r
sign_gap p k None i r e = absurd (cc)
sign_gap p k (Some q) i r e = ap gap (step_image p k q i) ∙ of_read (reads.gap q) r e

sign_half : (p : State) (o : Option State) → step p lambda ≡ o → (r : Reading) →
    option_map reads.half o ≡ Some r → half (take (image p) lambda) ≡ view r
sign_half p None i r e = absurd (cc)
sign_half p (Some q) i r e = ap half (step_image p lambda q i) ∙ of_read (reads.half q) r e

letter_gap : (p : State) (b : ℕ) (c : Bool) (r : Reading) → cond c (Some (reads.word (b ∷ []) p)) None ≡ Some r →
    word (b ∷ []) (image p) ≡ view r
letter_gap p b true r e = of_read (reads.word (b ∷ []) p) r e
letter_gap p b false r e = absurd (cc)

sign_look : (p : State) (b : ℕ) (k : Token) (r : Reading) → is_word k ≡ false → option_map reads.gap (step p k) ≡ Some r →
    gap_look (image p) b (kind_of (sign k)) ≡ view r
sign_look p b (name x) r w e = absurd (cc)
sign_look p b let_key r w e = absurd (cc)
sign_look p b in_key r w e = absurd (cc)
sign_look p b lambda r w e = sign_gap p lambda (step p lambda) refl r e
sign_look p b dot r w e = sign_gap p dot (step p dot) refl r e
sign_look p b equals r w e = sign_gap p equals (step p equals) refl r e
sign_look p b open_bracket r w e = sign_gap p open_bracket (step p open_bracket) refl r e
sign_look p b close_bracket r w e = sign_gap p close_bracket (step p close_bracket) refl r e

class_look : (p : State) (b : ℕ) (c : Class) → ((k : Token) → c ≡ sign k → is_word k ≡ false) → (r : Reading) →
    gap_step p b c ≡ Some r → gap_look (image p) b (kind_of c) ≡ view r
class_look p b blank w r e = of_read (reads.gap p) r e
class_look p b hash w r e = of_read (reads.comment p) r e
class_look p b letter w r e = letter_gap p b (takes_name p) r e
class_look p b digit w r e = absurd (cc)
class_look p b (sign k) w r e = sign_look p b k r (w k refl) e
class_look p b lead w r e = sign_half p (step p lambda) refl r e
class_look p b other w r e = absurd (cc)

in_gap : (p : State) (b : ℕ) (r : Reading) → gap_step p b (class_of b) ≡ Some r →
    gap_look (image p) b (kind_of (class_of b)) ≡ view r
in_gap p b r e = class_look p b (class_of b) (λ k i. sign_no_word b k i) r e

comment_look : (p : State) (c : Bool) (r : Reading) → Some (cond c (reads.gap p) (reads.comment p)) ≡ Some r →
    cond c (gap (image p)) (comment (image p)) ≡ view r
comment_look p true r e = of_read (reads.gap p) r e
comment_look p false r e = of_read (reads.comment p) r e

behind_word : (p : State) (k : Token) (o : Option State) → step p k ≡ o → (b : ℕ) (r : Reading) →
    option_and_then (λ q. gap_step q b (class_of b)) o ≡ Some r →
    gap_look (take (image p) k) b (kind_of (class_of b)) ≡ view r
behind_word p k None i b r e = absurd (cc)
behind_word p k (Some q) i b r e =
    ap (λ (s : Sight). gap_look s b (kind_of (class_of b))) (step_image p k q i) ∙ in_gap q b r e

word_look : (w : List ℕ) (p : State) (b : ℕ) (c : Bool) (r : Reading) →
    cond c (Some (reads.word (w ++ (b ∷ [])) p))
    (option_and_then (λ q. gap_step q b (class_of b)) (step p (token_of w))) ≡ Some r →
    cond c (word (w ++ (b ∷ [])) (image p)) (gap_look (take (image p) (token_of w)) b (kind_of (class_of b))) ≡ view r
word_look w p b true r e = of_read (reads.word (w ++ (b ∷ [])) p) r e
word_look w p b false r e = behind_word p (token_of w) (step p (token_of w)) refl b r e

half_look : (p : State) (c : Bool) (r : Reading) → cond c (Some (reads.gap p)) None ≡ Some r → gap (image p) ≡ view r
half_look p true r e = of_read (reads.gap p) r e
half_look p false r e = absurd (cc)

byte_image : (s : Reading) (b : ℕ) (r : Reading) → byte_step s b ≡ Some r → byte_look (view s) b ≡ view r
byte_image (reads.gap p) b r e = in_gap p b r e
byte_image (reads.comment p) b r e = comment_look p (nat_eq b 10) r e
byte_image (reads.word w p) b r e = word_look w p b (in_word (class_of b)) r e
byte_image (reads.half p) b r e = half_look p (nat_eq b 187) r e

-- ---- the whole

ends : (u : Named) (fs : List machine.Frame) (t : Named) → machine.at_end (u, fs) ≡ Some t → u ≡ t
ends u [] t e = cc
ends u (f ∷ fs) t e = absurd (cc)

final_image : (p : State) (t : Named) → final p ≡ Some t → result_of (image p) ≡ binders_of t
final_image (machine.at None fs) t e = absurd (cc)
final_image (machine.at (Some f) fs) t e =
    ap (λ (q : Binders × List Frame). q.0) (finish_image f fs)
    ∙ ap binders_of (ends (machine.finish f fs).0 (machine.finish f fs).1 t e)
final_image (machine.first_name fs) t e = absurd (cc)
final_image (machine.more_names fs) t e = absurd (cc)
final_image (machine.let_name fs) t e = absurd (cc)
final_image (machine.let_equals x fs) t e = absurd (cc)

word_final : (p : State) (k : Token) (o : Option State) → step p k ≡ o → (t : Named) →
    option_and_then final o ≡ Some t → result_of (take (image p) k) ≡ binders_of t
word_final p k None i t e = absurd (cc)
word_final p k (Some q) i t e = ap result_of (step_image p k q i) ∙ final_image q t e

last_image : (s : Reading) (t : Named) → byte_final s ≡ Some t → result_of (last (view s)) ≡ binders_of t
last_image (reads.gap p) t e = final_image p t e
last_image (reads.comment p) t e = final_image p t e
last_image (reads.word w p) t e = word_final p (token_of w) (step p (token_of w)) refl t e
last_image (reads.half p) t e = absurd (cc)

run_image : (s : Reading) (bs : List ℕ) (t : Named) → takes s bs ≡ Some t → result_of (sees (view s) bs) ≡ binders_of t
run_image s [] t e = last_image s t e
run_image s (b ∷ bs) t e = go (λ r i. run_image r bs t i) (byte_step s b) refl e
  where
    go : ((r : Reading) → takes r bs ≡ Some t → result_of (sees (view r) bs) ≡ binders_of t) → (o : Option Reading) →
        byte_step s b ≡ o → option_and_then (λ r. takes r bs) o ≡ Some t →
        result_of (sees (byte_look (view s) b) bs) ≡ binders_of t
    go more None i e = absurd (cc)
    go more (Some r) i e = ap (λ (l : Look). result_of (sees l bs)) (byte_image s b r i) ∙ more r e

-- the names of a text are those of its term
pub names_seen : (bytes : List ℕ) (t : Named) → IsText bytes t → result_of (sees (gap (at None [])) bytes) ≡ binders_of t
names_seen bytes t i = run_image reads.start bytes t (text_taken bytes t i)
