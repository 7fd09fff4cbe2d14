-- The flat state, a step at a time.
use Rattle.std.proofs.Common.{◌≡◌, ℕ, List, [], ◌∷◌, ◌++◌, map, length, Bool, true, false, Option, Some, None}
use Rattle.std.proofs.Common.{option_and_then, is_some, refl, sym, ap, ◌∙◌, subst, append-nil}
use Rattle.ol_parse.specs.Grammar.{Named, var, lam, app, name, close_bracket}
use Rattle.ol_parse.specs.Machine.{Frame, applied, abstracted, bound, bracket, defining, State, at, first_name}
use Rattle.ol_parse.specs.Machine.{more_names, let_name, let_equals, join, finish, at_close, step}
use Rattle.ol_parse.specs.Flat.{put, build, built, bare, without, withouts, Shows, one_of, held}
use Rattle.ol_parse.specs.Flat.{waiting, around, Unwound, Ended, Holds, Next, applied_if}
use Rattle.ol_parse.specs.declared.flat.Op.{Op}
use Rattle.ol_parse.specs.declared.flat.Op.TheVariants.{Push, Apply, Abstract, ApplyBelow}
use Rattle.std.specs.Borrow.{Bor}
use Rattle.ol_parse.specs.declared.flat.Mode.{Mode}
use Rattle.ol_parse.specs.declared.flat.Mode.TheVariants.{Term}
use Rattle.ol_parse.specs.declared.flat.Open.{Open}
use Rattle.ol_parse.specs.declared.flat.Open.TheVariants.{Applied, Abstracted, Bound, Bracket}

some_is : (o : Option (List Named)) → option_and_then (λ t. Some t) o ≡ o
some_is None = refl
some_is (Some t) = refl

build_then : (f g : List Named → Option (List Named)) (op : Op) (us : List Named) →
    ((ts : List Named) → f ts ≡ Some us → g ts ≡ put op us) → (r : Option (List Named)) →
    option_and_then f r ≡ Some us → option_and_then g r ≡ put op us
build_then f g op us each None h = absurd (cc)
build_then f g op us each (Some t) h = each t h

build_more : (op : Op) (us : List Named) (ops : List Op) (ts : List Named) →
    build ops ts ≡ Some us → build (ops ++ (op ∷ [])) ts ≡ put op us
build_more op us [] ts h = let e : ts ≡ us = cc in some_is (put op ts) ∙ ap (put op) e
build_more op us (o ∷ ops) ts h = build_then (build ops) (build (ops ++ (op ∷ []))) op us
    (build_more op us ops) (put o ts) h

pub built_push : (op : Op) (old new : List Op) (ts us : List Named) → built old ≡ Some ts →
    put op ts ≡ Some us → new ≡ old ++ (op ∷ []) → built new ≡ Some us
built_push op old new ts us h e n = ap built n ∙ build_more op ts old [] h ∙ e

-- the one step that a frame leaves where it ends, unless it is a `let`
abbrev pub emits : Open → Option Op
emits (Applied true) = Some Apply
emits (Abstracted x) = Some (Abstract x)
emits _ = None

put_emitted : (o : Open) (op : Op) (f : Frame) (u : Named) (ts : List Named) → emits o ≡ Some op →
    bare o ≡ without f → (v : Named) × (around f u ≡ Some v) × (put op (u ∷ held f ++ ts) ≡ Some (v ∷ ts))
put_emitted (Applied true) op (applied (Some g)) u ts e b = let i : Apply ≡ op = cc in
    (app g u, refl, ap (λ p. put p (u ∷ g ∷ ts)) (sym i))
put_emitted (Applied true) op (applied None) u ts e b = absurd (cc)
put_emitted (Abstracted x) op (abstracted y) u ts e b = let i : Abstract x ≡ op = cc in
    let j : x.now ≡ y = cc in (lam y u, refl, ap (λ p. put p (u ∷ ts)) (sym i) ∙ ap (λ n. Some (lam n u ∷ ts)) j)
put_emitted _ op _ u ts e b = absurd (cc)

pub unwound : (o : Open) (op : Op) (old new : List Op) → emits o ≡ Some op →
    new ≡ old ++ (op ∷ []) → (f : Frame) (u : Named) (ts : List Named) → bare o ≡ without f →
    built old ≡ Some (u ∷ held f ++ ts) → Unwound true new ts (around f u)
unwound o op old new e n f u ts b h =
    let (v, a, p) = put_emitted o op f u ts e b in
    subst (Unwound true new ts) (sym a) (built_push op old new (u ∷ held f ++ ts) (v ∷ ts) h p n)

-- the two steps that a `let` leaves where it ends
pub let_unwound : (o : Open) (x : Bor (List ℕ)) (old mid new : List Op) → o ≡ Bound x →
    mid ≡ old ++ (Abstract x ∷ []) → new ≡ mid ++ (ApplyBelow ∷ []) → (f : Frame) (u : Named) (ts : List Named) →
    bare o ≡ without f → built old ≡ Some (u ∷ held f ++ ts) → Unwound true new ts (around f u)
let_unwound o x old mid new e m n (bound y d) u ts b h =
    let j : x.now ≡ y = cc in
    built_push ApplyBelow mid new (lam x.now u ∷ d ∷ ts) (app (lam y u) d ∷ ts)
    (built_push (Abstract x) old mid (u ∷ d ∷ ts) (lam x.now u ∷ d ∷ ts) h refl m)
    (ap (λ z. Some (app (lam z u) d ∷ ts)) j) n
let_unwound o x old mid new e m n f u ts b h = absurd (cc)

snoc : {A : Type 0} (xs bs : List A) (a b : A) → xs ++ (a ∷ []) ≡ bs ++ (b ∷ []) → (xs ≡ bs) × (a ≡ b)
snoc [] [] a b h = (refl, cc)
snoc [] (b' ∷ []) a b h = absurd (cc)
snoc [] (b' ∷ c ∷ bs) a b h = absurd (cc)
snoc (a' ∷ []) [] a b h = absurd (cc)
snoc (a' ∷ c ∷ xs) [] a b h = absurd (cc)
snoc (a' ∷ xs) (b' ∷ bs) a b h =
    let t : xs ++ (a ∷ []) ≡ bs ++ (b ∷ []) = cc in
    let e : a' ≡ b' = cc in
    let r = snoc xs bs a b t in
    (ap (λ l. a' ∷ l) r.0 ∙ ap (λ x. x ∷ bs) e, r.1)

map_snoc : (os : List Open) (o : Open) → map bare (os ++ (o ∷ [])) ≡ map bare os ++ (bare o ∷ [])
map_snoc [] o = refl
map_snoc (a ∷ os) o = ap (λ l. bare a ∷ l) (map_snoc os o)

not_none : {A : Type 0} (xs : List A) (a : A) → xs ++ (a ∷ []) ≡ [] → ⊥
not_none [] a h = cc
not_none (b ∷ xs) a h = cc

-- the innermost frame is the last that is open
pub record Popped (fs : List Frame) (o : Open) (opens : List Open) : Type 0 where
  pub frame : Frame
  pub frames : List Frame
  pub is : fs ≡ frame ∷ frames
  pub last : bare o ≡ without frame
  pub shows : Shows frames opens

pub popped : (fs : List Frame) (o : Open) (old new : List Open) → Shows fs old → old ≡ new ++ (o ∷ []) → Popped fs o new
popped [] o old new h e = absurd (not_none (map bare new) (bare o) (sym (map_snoc new o) ∙ ap (map bare) (sym e) ∙ h))
popped (f ∷ fs) o old new h e =
    let r = snoc (map bare new) (withouts fs) (bare o) (without f) (sym (map_snoc new o) ∙ ap (map bare) (sym e) ∙ h) in
    record { frame = f; frames = fs; is = refl; last = r.1; shows = r.0 }

pub pushed : (fs : List Frame) (f : Frame) (o : Open) (old new : List Open) → Shows fs old →
    bare o ≡ without f → new ≡ old ++ (o ∷ []) → Shows (f ∷ fs) new
pushed fs f o old new h b e = ap (map bare) e ∙ map_snoc old o ∙ ap (λ l. l ++ (bare o ∷ [])) h
    ∙ ap (λ x. withouts fs ++ (x ∷ [])) b

-- a term under frames that finish as the term and the frames at the start do
pub record Going (u : Named) (fs : List Frame) (opens : List Open) (ops : List Op) : Type 0 where
  pub now : Named
  pub frames : List Frame
  pub same : finish now frames ≡ finish u fs
  pub shows : Shows frames opens
  pub terms : built ops ≡ Some (now ∷ waiting frames)

abbrev pub Unwinds : Bool → Open → List Op → List Op → Type 0
Unwinds b o old new = (f : Frame) (u : Named) (ts : List Named) → bare o ≡ without f →
    built old ≡ Some (u ∷ held f ++ ts) → Unwound b new ts (around f u)

goes_on : (f : Frame) (fs : List Frame) (u : Named) (ops : List Op) (w : Named × List Frame)
    (opens : List Open) → finish u (f ∷ fs) ≡ w → Shows fs opens →
    Unwound true ops (waiting fs) (around f u) → (v : Named) × (finish v fs ≡ w) × (built ops ≡ Some (v ∷ waiting fs))
goes_on (applied o) fs u ops w opens e s h = (join o u, e, h)
goes_on (abstracted x) fs u ops w opens e s h = (lam x u, e, h)
goes_on (bound x d) fs u ops w opens e s h = (app (lam x u) d, e, h)
goes_on (bracket o) fs u ops w opens e s h = absurd h
goes_on (defining x) fs u ops w opens e s h = absurd h

stops : (f : Frame) (fs : List Frame) (u : Named) (ops : List Op) →
    Unwound false ops (waiting fs) (around f u) → finish u (f ∷ fs) ≡ (u, f ∷ fs)
stops (applied o) fs u ops h = absurd h
stops (abstracted x) fs u ops h = absurd h
stops (bound x d) fs u ops h = absurd h
stops (bracket o) fs u ops h = refl
stops (defining x) fs u ops h = refl

pub going_on : (u : Named) (fs : List Frame) (o : Open) (olds news : List Open)
    (old new : List Op) → Going u fs olds old → olds ≡ news ++ (o ∷ []) → Unwinds true o old new → Going u fs news new
going_on u fs o olds news old new g e each =
    let p = popped g.frames o olds news g.shows e in
    let t : built old ≡ Some (g.now ∷ held p.frame ++ waiting p.frames) = g.terms
    ∙ ap (λ l. Some (g.now ∷ waiting l)) p.is in
    let (v, s, b) = goes_on p.frame p.frames g.now new (finish u fs) news
    (ap (finish g.now) (sym p.is) ∙ g.same) p.shows (each p.frame g.now (waiting p.frames) p.last t) in
    record { now = v; frames = p.frames; same = s; shows = p.shows; terms = b }

pub going_stops : (u : Named) (fs : List Frame) (o : Open) (olds news : List Open)
    (old new : List Op) → Going u fs olds old → olds ≡ news ++ (o ∷ []) → Unwinds false o old new →
    new ≡ old → Ended (finish u fs) (Some o) news new
going_stops u fs o olds news old new g e each k =
    let p = popped g.frames o olds news g.shows e in
    let t : built old ≡ Some (g.now ∷ held p.frame ++ waiting p.frames) = g.terms
    ∙ ap (λ l. Some (g.now ∷ waiting l)) p.is in
    let s = stops p.frame p.frames g.now new (each p.frame g.now (waiting p.frames) p.last t) in
    subst (λ w. Ended w (Some o) news new) (sym s ∙ ap (finish g.now) (sym p.is) ∙ g.same)
    (p.last, p.shows, ap built k ∙ t)

none_in : {A : Type 0} (xs : List A) → length xs ≡ 0 → xs ≡ []
none_in [] h = refl
none_in (x ∷ xs) h = absurd (cc)

none_left : (fs : List Frame) → Shows fs [] → fs ≡ []
none_left [] h = refl
none_left (f ∷ fs) h = absurd (not_none (withouts fs) (without f) (sym h))

pub going_ends : (u : Named) (fs : List Frame) (olds news : List Open) (ops : List Op) →
    Going u fs olds ops → olds ≡ news ++ [] → length olds ≡ 0 → Ended (finish u fs) None news ops
going_ends u fs olds news ops g e l =
    let n = none_in olds l in
    let z : g.frames ≡ [] = none_left g.frames (subst (Shows g.frames) n g.shows) in
    subst (λ w. Ended w None news ops) (ap (finish g.now) (sym z) ∙ g.same)
    (sym (append-nil news) ∙ sym e ∙ n, g.terms ∙ ap (λ l. Some (g.now ∷ waiting l)) z)

-- a term that the spine before it is applied to
pub joined : (o : Option Named) (fs : List Frame) (u : Named) (b : Bool) (mid new : List Op) →
    built mid ≡ Some (u ∷ one_of o ++ waiting fs) → b ≡ is_some o → new ≡ applied_if b mid →
    built new ≡ Some (join o u ∷ waiting fs)
joined None fs u b mid new h i n = ap built (n ∙ ap (λ y. applied_if y mid) i) ∙ h
joined (Some f) fs u b mid new h i n = built_push Apply mid new (u ∷ f ∷ waiting fs)
    (app f u ∷ waiting fs) h refl (n ∙ ap (λ y. applied_if y mid) i)

name_at : (p : State) (b : Bool) (w : Bor (List ℕ)) (opens : List Open) (old mid new : List Op) →
    Holds p (Term b) opens old → mid ≡ old ++ (Push w ∷ []) → new ≡ applied_if b mid →
    Next (step p (name w.now)) (Some (Term true)) opens new
name_at (at o fs) b w opens old mid new h m n = record {
  mode = refl;
  shows = h.shows;
  terms = joined o fs (var w.now) b mid new
      (built_push (Push w) old mid (one_of o ++ waiting fs)
      (var w.now ∷ one_of o ++ waiting fs) h.terms refl m) h.mode n;
}
name_at (first_name fs) b w opens old mid new h m n = absurd h.mode
name_at (more_names fs) b w opens old mid new h m n = absurd h.mode
name_at (let_name fs) b w opens old mid new h m n = absurd h.mode
name_at (let_equals x fs) b w opens old mid new h m n = absurd h.mode

pub name_next : (m : Mode) (b : Bool) (w : Bor (List ℕ)) (opens : List Open)
    (old mid new : List Op) → m ≡ Term b → mid ≡ old ++ (Push w ∷ []) → new ≡ applied_if b mid →
    (p : State) → Holds p m opens old → Next (step p (name w.now)) (Some (Term true)) opens new
name_next m b w opens old mid new e i n p h = name_at p b w opens old mid new (subst (λ m. Holds p m opens old) e h) i n

close_at : (w : Named × List Frame) (b : Bool) (opens : List Open) (ops new : List Op) →
    Ended w (Some (Bracket b)) opens ops → new ≡ applied_if b ops → Next (at_close w) (Some (Term true)) opens new
close_at (u, []) b opens ops new h n = absurd h
close_at (u, bracket o ∷ fs) b opens ops new h n = record {
  mode = refl;
  shows = h.1;
  terms = joined o fs u b ops new h.2 (cc) n;
}
close_at (u, f ∷ fs) b opens ops new h n = absurd (cc)

-- what the finish of a state's term was shown to leave
abbrev pub Finishes : Option Open → List Open → List Op → List Open → List Op → Type 0
Finishes closer opens ops olds old = (u : Named) (fs : List Frame) → Shows fs olds →
    built old ≡ Some (u ∷ waiting fs) → Ended (finish u fs) closer opens ops

close_in : (p : State) (b : Bool) (olds opens : List Open) (old ops new : List Op) →
    Holds p (Term true) olds old → Finishes (Some (Bracket b)) opens ops olds old →
    new ≡ applied_if b ops → Next (step p close_bracket) (Some (Term true)) opens new
close_in (at None fs) b olds opens old ops new h each n = absurd (let e : true ≡ false = h.mode in cc)
close_in (at (Some f) fs) b olds opens old ops new h each n = close_at (finish f fs) b opens ops new
    (each f fs h.shows h.terms) n
close_in (first_name fs) b olds opens old ops new h each n = absurd h.mode
close_in (more_names fs) b olds opens old ops new h each n = absurd h.mode
close_in (let_name fs) b olds opens old ops new h each n = absurd h.mode
close_in (let_equals x fs) b olds opens old ops new h each n = absurd h.mode

pub close_next : (m : Mode) (c : Option Open) (b : Bool) (olds opens : List Open)
    (old ops new : List Op) → m ≡ Term true → c ≡ Some (Bracket b) → Finishes c opens ops olds old →
    new ≡ applied_if b ops → (p : State) → Holds p m olds old → Next (step p close_bracket) (Some (Term true)) opens new
close_next m c b olds opens old ops new e i each n p h = close_in p b olds opens old ops new
    (subst (λ m. Holds p m olds old) e h) (subst (λ c. Finishes c opens ops olds old) i each) n
