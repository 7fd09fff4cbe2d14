-- The numbers of a job are within the limits of their options.
use Rattle.std.proofs.Common.{◌≡◌, ℕ, ◌≤◌, ◌==◌, Bool, true, false, ◌&&◌, if◌then◌else◌, List, [], ◌∷◌, Option, None}
use Rattle.std.proofs.Common.{Some, option_map, option_and_then, nat_le, refl, subst, arith}
use Rattle.std.proofs.lemmas.Bool.Decides.{nat_tests}
use Rattle.std.specs.Str.Parse.{digits_value}
use Rattle.ol_words.specs.Texts.{Text}
use Rattle.ol_words.specs.Lines.{Line, line_of}
use Rattle.ol_words.specs.Settings.{from_to, number_within, is_number, setting, known_in, setting_row}
use Rattle.ol_words.specs.declared.jobs.Job.{Job}
use Rattle.ol_words.specs.declared.jobs.Job.TheVariants as jobs
use Rattle.ol_words.specs.declared.numbers.Limits.{Limits}
use Rattle.ol_words.specs.declared.settings.Setting.{Setting}
use Rattle.ol_words.specs.declared.settings.Setting.TheVariants as set
use Rattle.ol_words.specs.declared.verbs.Verb.{Verb}
use Rattle.ol_words.specs.declared.verbs.Verb.TheVariants as verbs
use Rattle.ol_words.specs.Asked.{asks, is_input, numbered, verb_named, verb_row}
use Rattle.ol_words.specs.Jobs.{job_behind, job_of, job_on, number_on, numbers, values_of}
use Rattle.ol_cli.specs.Jobs.{IsWithinLimits}
use Rattle.ol_law_edges.proofs.Options.{mapped}

and_then_some : {A B : Type 0} (f : A → Option B) (o : Option A) (b : B) →
    option_and_then f o ≡ Some b → (a : A) × (o ≡ Some a) × (f a ≡ Some b)
and_then_some f (Some a) b h = (a, refl, h)
and_then_some f None b h = absurd (cc)

-- ---- a number

abbrev IsWithin : Limits → ℕ → Type 0
IsWithin l n = (l.least ≤ n) × (n ≤ l.most)

three : (a b c : Bool) (m n : ℕ) → (if a && (b && c) then Some m else None) ≡ Some n → (b ≡ true) × (c ≡ true) × (m ≡ n)
three true true true m n h = (refl, refl, cc)
three true true false m n h = absurd (cc)
three true false c m n h = absurd (cc)
three false b c m n h = absurd (cc)

le_of : (m n : ℕ) → nat_le m n ≡ true → m ≤ n
le_of m n h = grind (arith, nat_tests, h)

setting_within : (l : Limits) (values : List Text) (n : ℕ) → IsWithin l l.default →
    setting l values ≡ Some n → IsWithin l n
setting_within l [] n d h = let e : l.default ≡ n = cc in subst (IsWithin l) e d
setting_within l (value ∷ []) n d h =
    let t = three (is_number value) (nat_le l.least (digits_value 10 value))
    (nat_le (digits_value 10 value) l.most) (digits_value 10 value) n h in
    subst (IsWithin l) t.2 (le_of l.least (digits_value 10 value) t.0, le_of (digits_value 10 value) l.most t.1)
setting_within l (value ∷ again ∷ more) n d h = absurd (cc)

-- what a setting is where it isn't given
default_within : (s : Setting) → IsWithin (setting_row s).limits (setting_row s).limits.default
default_within set.Translation = (omega arith, omega arith)
default_within set.Workers = (omega arith, omega arith)
default_within set.Fuel = (omega arith, omega arith)
default_within set.Heads = (omega arith, omega arith)
default_within set.Edges = (omega arith, omega arith)
default_within set.After = (omega arith, omega arith)
default_within set.Steps = (omega arith, omega arith)
default_within set.Run = (omega arith, omega arith)
default_within set.FromTerm = (omega arith, omega arith)

-- ---- a line

-- the first number of a list of settings, and the others
first_number : (number : Setting → Option ℕ) (s : Setting) (rest : List Setting) (ns : List ℕ) →
    numbers number (s ∷ rest) ≡ Some ns →
    (n : ℕ) × (more : List ℕ) × (number s ≡ Some n) × (numbers number rest ≡ Some more) × (n ∷ more ≡ ns)
first_number number s rest ns h =
    let t = and_then_some (λ (n : ℕ). option_map (λ (more : List ℕ). n ∷ more) (numbers number rest)) (number s) ns h in
    let u = mapped (λ (more : List ℕ). t.0 ∷ more) (numbers number rest) ns t.2 in
    (t.0, u.0, t.1, u.1, u.2)

-- each number is within the limits of its setting
abbrev AreWithin : List Setting → List ℕ → Type 0
AreWithin [] [] = Unit {0}
AreWithin (s ∷ ss) (n ∷ ns) = IsWithin (setting_row s).limits n × AreWithin ss ns
AreWithin _ _ = ⊥

numbers_within : (line : Line) (ss : List Setting) (ns : List ℕ) →
    numbers (number_on line) ss ≡ Some ns → AreWithin ss ns
numbers_within line [] ns h = let none : [] ≡ ns = cc in subst (AreWithin []) none tt
numbers_within line (s ∷ ss) ns h =
    let t = first_number (number_on line) s ss ns h in
    let here = setting_within (setting_row s).limits
    (values_of (setting_row s).option line.options) t.0 (default_within s) t.2 in
    subst (AreWithin (s ∷ ss)) t.4 (here, numbers_within line ss t.1 t.3)

-- ---- a verb

-- two files, which aren't both standard input
two_files : (b : Bool) (own job : Job) → (if b then None else Some own) ≡ Some job → own ≡ job
two_files true own job h = absurd (cc)
two_files false own job h = cc

nothing : (job : Job) → ◌≡◌ {A = Option Job} None (Some job) → ⊥
nothing job h = cc

-- how often a term may be doubled
abbrev doublings : Limits
doublings = from_to 0 10 0

doubled_within : (job : ℕ → Job) (text : Text) (a : Job) →
    ((k : ℕ) → k ≤ 10 → IsWithinLimits (job k)) →
    option_map job (number_within doublings text) ≡ Some a → IsWithinLimits a
doubled_within job text a each h =
    let is = mapped job (number_within doublings text) a h in
    let t = three (is_number text) (nat_le doublings.least (digits_value 10 text))
    (nat_le (digits_value 10 text) doublings.most) (digits_value 10 text) is.0 is.1 in
    subst IsWithinLimits {x = job is.0} is.2
    (each is.0 (subst (λ k. k ≤ 10) t.2 (le_of (digits_value 10 text) doublings.most t.1)))

asked_within : (v : Verb) (ns : List ℕ) (names : List Text) (job : Job) →
    AreWithin (verb_row v).settings ns → asks v ns names ≡ Some job → IsWithinLimits job
asked_within verbs.Run (t ∷ w ∷ f ∷ q ∷ []) (name ∷ []) job l h =
    let is : jobs.Run (numbered t) w f q name ≡ job = cc in
    subst IsWithinLimits is (l.1.0.0, l.1.0.1, l.1.1.0.1, l.1.1.1.0.0)
asked_within verbs.Walk (t ∷ e ∷ q ∷ []) (name ∷ []) job l h =
    let is : jobs.Walk (numbered t) e q name ≡ job = cc in subst IsWithinLimits is l.1.1.0.0
asked_within verbs.View (t ∷ k ∷ []) (name ∷ []) job l h =
    let is : jobs.View (numbered t) k name ≡ job = cc in subst IsWithinLimits is l.1.0.1
asked_within verbs.Trace (t ∷ w ∷ f ∷ []) (name ∷ []) job l h =
    let is : jobs.Trace (numbered t) w f name ≡ job = cc in subst IsWithinLimits is (l.1.0.0, l.1.0.1, l.1.1.0.1)
asked_within verbs.Check (t ∷ []) (a ∷ b ∷ []) job l h =
    let is = two_files (is_input a && is_input b) (jobs.Check (numbered t) a b) job h in subst IsWithinLimits is tt
asked_within verbs.Gen (t ∷ r ∷ []) (n ∷ []) job l h = doubled_within
    (jobs.Gen (numbered t) (r == 1)) n job (λ k below. below) h
asked_within verbs.Demand (t ∷ f ∷ q ∷ []) (name ∷ []) job l h =
    let is : jobs.Demand (numbered t) f q name ≡ job = cc in subst IsWithinLimits is (l.1.0.1, l.1.1.0.0)
asked_within verbs.Certify (t ∷ s ∷ w ∷ f ∷ q ∷ []) (name ∷ []) job l h =
    let is : jobs.Certify (numbered t) s w f q name ≡ job = cc in
    subst IsWithinLimits is (l.1.1.0.0, l.1.1.0.1, l.1.1.1.0.1, l.1.1.1.1.0.0)
asked_within verbs.Net (t ∷ r ∷ w ∷ f ∷ []) (name ∷ []) job l h =
    let is : jobs.Net (numbered t) (r == 1) w f name ≡ job = cc in
    subst IsWithinLimits is (l.1.1.0.0, l.1.1.0.1, l.1.1.1.0.1)
asked_within verbs.Equal (t ∷ w ∷ f ∷ q ∷ []) (a ∷ b ∷ []) job l h =
    let is = two_files (is_input a && is_input b) (jobs.Equal (numbered t) w f q a b) job h in
    subst IsWithinLimits is (l.1.0.0, l.1.0.1, l.1.1.0.1, l.1.1.1.0.0)
asked_within _ _ _ job l h = absurd (nothing job h)

-- ---- words

pub job_within : (texts : List Text) (job : Job) → job_of texts ≡ Some job → IsWithinLimits job
job_within [] job h = absurd (cc)
job_within (program ∷ []) job h = absurd (cc)
job_within (program ∷ word ∷ rest) job h =
    let named = and_then_some (job_behind rest) (verb_named word) job h in
    let v = named.0 in
    let read = and_then_some (job_on v) (line_of (known_in (verb_row v).settings) rest) job named.2 in
    let line = read.0 in
    let told = and_then_some (λ ns. asks v ns line.names)
    (numbers (number_on line) (verb_row v).settings) job read.2 in
    asked_within v told.0 line.names job (numbers_within line (verb_row v).settings told.0 told.1) told.2
