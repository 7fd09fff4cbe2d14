-- Words that ask for one job, but for the number of its workers, have with the same files one status, and one text as
-- far as the job tells one.
use Rattle.std.proofs.Common.{◌≡◌, ◌≢◌, ℕ, ◌<◌, ◌≤◌, Bool, true, false, List, length, Option, Some}
use Rattle.ol_cli.proofs.Views.{answer_cases}
use Rattle.std.proofs.Common.{inl, inr, refl, sym, ap, ◌∙◌, subst, arith, String, Global}
use Rattle.ol_term.specs.declared.translations.Translation.{Translation}
use Rattle.ol_term.specs.Trees.{Tree, depth}
use Rattle.ol_term.specs.Generated.{doubled_text}
use Rattle.ol_parse.specs.Texts.{IsRefusedAt}
use Rattle.ol_parse.specs.Numbered.{number}
use Rattle.ol_parse.specs.Parsed.{IsFileOf}
use Rattle.ol_parse.proofs.Exact.{one_file}
use Rattle.ol_parse.proofs.Sizes.{one_dead_place}
use Rattle.ol_net.specs.Nets.{IsNet}
use Rattle.ol_translate.specs.Sizes.{size_of_translation}
use Rattle.ol_translate.specs.Translation.{translation_of}
use Rattle.ol_translate.proofs.Whole.{translation_net}
use Rattle.ol_equal.specs.Comparing.{TreeWithNames, IsComparison}
use Rattle.ol_equal.specs.Texts.{compared_text}
use Rattle.ol_equal.proofs.Alone.{comparison_is_one}
use Rattle.ol_view.specs.declared.answers.Check.{Check}
use Rattle.ol_view.specs.Checks.{OnlyIsFound}
use Rattle.ol_words.specs.Texts.{Text}
use Rattle.ol_words.specs.declared.jobs.Job.{Job}
use Rattle.ol_words.specs.declared.jobs.Job.TheVariants as jobs
use Rattle.ol_cli.specs.declared.status.Status.{Status}
use Rattle.ol_cli.specs.declared.status.Status.TheVariants.{Done, Limit, Syntax, Usage}
use Rattle.ol_cli.specs.Jobs.{EndsWithinFuel, Files, AskFor, AskForNothing, file_name, translation_in}
use Rattle.ol_cli.specs.Laws.{HaveOneText}
use Rattle.ol_cli.specs.Texts.{line, usage_text}
use Rattle.ol_cli.specs.RefusalTexts.{bytes_text, depth_text, nodes_text, journal_text, syntax_text}
use Rattle.ol_cli.specs.Check.{found_text, JournalAnswer}
use Rattle.ol_cli.specs.Run.{start_net_of_term, ReadsLast}
use Rattle.ol_cli.specs.Net.{NetFileAnswer}
use Rattle.ol_cli.specs.TermFiles.{IsTermFile}
use Rattle.ol_cli.specs.Cases.{TermAnswer, FileAnswer, JobAnswer, of_file, of_journal, made, of_net_file, of_first}
use Rattle.ol_cli.specs.Cases.{of_second, of_both}
use Rattle.ol_cli.specs.Answers.{IsAnswer}
use Rattle.ol_cli.specs.Equal.{HasTree, Compares}
use Rattle.ol_cli.specs.Generate.{Makes, plain_run}
use Rattle.ol_cli.proofs.OnePrint.{one_last_tree}
use Rattle.ol_cli.proofs.TermLaws.{done_by_laws, laws, one_by_laws}
use Rattle.ol_cli.proofs.NetFiles.{Alike, alike_by, one_net_file}
use Rattle.ol_law_meaning.proofs.FileNames.{file_names}

abbrev pub Same : Status → Status → List ℕ → List ℕ → Type 0
Same s s' x x' = (s ≡ s') × (x ≡ x')

-- two answers that are each this one
pub same_as : (s s' u : Status) (x x' y : List ℕ) → Same s u x y → Same s' u x' y → Same s s' x x'
same_as s s' u x x' y h h' = (h.0 ∙ sym h'.0, h.1 ∙ sym h'.1)

-- refusals have one text, whatever the job is
refused_texts : (job : Job) (x x' : List ℕ) → x ≡ x' → HaveOneText job Limit x x' × HaveOneText job Syntax x x'
refused_texts (jobs.Net tr true w f name) x x' e = (e, e)
refused_texts _ x x' e = (e, e)

-- two answers of a job that are each this limit
alike_as : (job : Job) (s s' : Status) (x x' y : List ℕ) → Same s Limit x y →
    Same s' Limit x' y → Alike job s s' x x'
alike_as job s s' x x' y h h' = alike_by job s s' Limit x x' h.0 h'.0 (refused_texts job x x' (h.1 ∙ sym h'.1)).0

-- ---- a term

pub file_net : (tr : Translation) (bytes : List ℕ) (t : Tree) (names : List (List ℕ)) →
    IsFileOf bytes t names → IsNet (translation_of tr t (length names))
file_net tr bytes t names f = translation_net tr t (length names) (file_names bytes t names f)

-- what a job answers to a tree, by the order of refusals
pub data OfTree (job : Job) (t : Tree) (names : List (List ℕ)) (s : Status) (x : List ℕ) : Type 0 where
  too_deep : 1000 < depth t → Same s Limit x depth_text → OfTree job t names s x
  too_large : depth t ≤ 1000 → 200000 < size_of_translation (translation_in job) t →
      Same s Limit x nodes_text → OfTree job t names s x
  done : depth t ≤ 1000 → size_of_translation (translation_in job) t ≤ 200000 →
      TermAnswer job t names s x → OfTree job t names s x

one_of_tree : (job : Job) (t : Tree) (names : List (List ℕ)) →
    IsNet (translation_of (translation_in job) t (length names)) →
    (s s' : Status) (x x' : List ℕ) → OfTree job t names s x → OfTree job t names s' x' → Alike job s s' x x'
one_of_tree job t names n s s' x x' (too_deep d h) (too_deep d' h') = alike_as job s s' x x' depth_text h h'
one_of_tree job t names n s s' x x' (too_deep d h) (too_large d' z' h') = absurd (omega arith)
one_of_tree job t names n s s' x x' (too_deep d h) (done d' z' h') = absurd (omega arith)
one_of_tree job t names n s s' x x' (too_large d z h) (too_deep d' h') = absurd (omega arith)
one_of_tree job t names n s s' x x' (too_large d z h) (too_large d' z' h') = alike_as job s s' x x' nodes_text h h'
one_of_tree job t names n s s' x x' (too_large d z h) (done d' z' h') = absurd (omega arith)
one_of_tree job t names n s s' x x' (done d z h) (too_deep d' h') = absurd (omega arith)
one_of_tree job t names n s s' x x' (done d z h) (too_large d' z' h') = absurd (omega arith)
one_of_tree job t names n s s' x x' (done d z h) (done d' z' h') = one_by_laws (laws job t names) n s s' x x' h h'

-- ---- a file

-- what a job answers to a file, by the order of refusals
pub data OfFile (job : Job) (bytes : List ℕ) (s : Status) (x : List ℕ) : Type 0 where
  too_long : 1048576 < length bytes → Same s Limit x bytes_text → OfFile job bytes s x
  refused : length bytes ≤ 1048576 → (at : ℕ) → IsRefusedAt bytes at →
      Same s Syntax x (syntax_text at) → OfFile job bytes s x
  has_term : length bytes ≤ 1048576 → (t : Tree) (names : List (List ℕ)) → IsFileOf bytes t names →
      OfTree job t names s x → OfFile job bytes s x

pub of_file_answer : (job : Job) (bytes : List ℕ) (s : Status) (x : List ℕ) →
    FileAnswer job bytes s x → OfFile job bytes s x
of_file_answer job bytes Limit x (inl (l, e)) = too_long l (refl, e)
of_file_answer job bytes Limit x (inr (l, t, names, f, inl (d, e))) = has_term l t names f (too_deep d (refl, e))
of_file_answer job bytes Limit x (inr (l, t, names, f, inr (d, (z, e)))) = has_term l t names f
    (too_large d z (refl, e))
of_file_answer job bytes Syntax x (at, l, r, e) = refused l at r (refl, e)
of_file_answer job bytes _ x h = has_term h.2.short h.0 h.1 h.2.file (done h.2.shallow h.2.small h.3)

one_of_file : (job : Job) (bytes : List ℕ) → (s s' : Status) (x x' : List ℕ) →
    OfFile job bytes s x → OfFile job bytes s' x' → Alike job s s' x x'
one_of_file job bytes s s' x x' (too_long l h) (too_long l' h') = alike_as job s s' x x' bytes_text h h'
one_of_file job bytes s s' x x' (too_long l h) (refused l' at' r' h') = absurd (omega arith)
one_of_file job bytes s s' x x' (too_long l h) (has_term l' t' names' f' h') = absurd (omega arith)
one_of_file job bytes s s' x x' (refused l at r h) (too_long l' h') = absurd (omega arith)
one_of_file job bytes s s' x x' (refused l at r h) (refused l' at' r' h') =
    let e : at ≡ at' = one_dead_place bytes at at' r.1 r'.1 in
    alike_by job s s' Syntax x x' h.0 h'.0 (refused_texts job x x' (h.1 ∙ ap (λ at. syntax_text at) e ∙ sym h'.1)).1
one_of_file job bytes s s' x x' (refused l at r h) (has_term l' t' names' f' h') = absurd (r.0 f'.named f'.text)
one_of_file job bytes s s' x x' (has_term l t names f h) (too_long l' h') = absurd (omega arith)
one_of_file job bytes s s' x x' (has_term l t names f h) (refused l' at' r' h') = absurd (r'.0 f.named f.text)
one_of_file job bytes s s' x x' (has_term l t names f h) (has_term l' t' names' f' h') =
    let e = one_file bytes t' t names' names f' f in
    one_of_tree job t names (file_net (translation_in job) bytes t names f) s s' x x' h
    (subst (λ t. OfTree job t names s' x') e.0 (subst (λ names. OfTree job t' names s' x') e.1 h'))

one_file_answer : (job : Job) (bytes : List ℕ) → (s s' : Status) (x x' : List ℕ) →
    FileAnswer job bytes s x → FileAnswer job bytes s' x' → Alike job s s' x x'
one_file_answer job bytes s s' x x' h h' = one_of_file job bytes s s' x x'
    (of_file_answer job bytes s x h) (of_file_answer job bytes s' x' h')

-- what is answered to the term of some bytes is answered to their term
pub same_answer : (job : Job) (bytes : List ℕ) (t u : Tree) (names others : List (List ℕ)) →
    IsFileOf bytes t names → IsFileOf bytes u others → (s : Status) (x : List ℕ) →
    TermAnswer job u others s x → TermAnswer job t names s x
same_answer job bytes t u names others f g s x h =
    let same = one_file bytes u t others names g f in
    subst (λ t. TermAnswer job t names s x) same.0 (subst (λ names. TermAnswer job u names s x) same.1 h)

-- ---- a file within the limits

module _ (job : Job) (bytes : List ℕ) (t : Tree) (names : List (List ℕ))
    (i : IsTermFile (translation_in job) bytes t names) where
  own_tree : (u : Tree) (others : List (List ℕ)) → IsFileOf bytes u others →
      (s : Status) (x : List ℕ) → OfTree job u others s x → TermAnswer job t names s x
  own_tree u others f s x (too_deep d h) = let b = i.shallow in
      let e = ap depth (one_file bytes t u names others i.file f).0 in absurd (omega arith)
  own_tree u others f s x (too_large d z h) = let b = i.small in
      let e = ap (size_of_translation (translation_in job))
      (one_file bytes t u names others i.file f).0 in absurd (omega arith)
  own_tree u others f s x (done d z h) = same_answer job bytes t u names others i.file f s x h

  -- what is answered is answered to its term
  pub own_term : (s : Status) (x : List ℕ) → OfFile job bytes s x → TermAnswer job t names s x
  own_term s x (too_long l h) = let b = i.short in absurd (omega arith)
  own_term s x (refused l at r h) = absurd (r.0 i.file.named i.file.text)
  own_term s x (has_term l u others f h) = own_tree u others f s x h

  pub done_file : EndsWithinFuel job t names → (s : Status) (x : List ℕ) → OfFile job bytes s x → s ≡ Done
  done_file ends s x o =
      done_by_laws (laws job t names) (file_net (translation_in job) bytes t names i.file) ends s x (own_term s x o)

-- ---- two files

-- what `run` answers to a file whose term is read back is Done
pub read_file : (tr : Translation) (w fuel heads : ℕ) (name : Text) (bytes : List ℕ) →
    HasTree tr bytes fuel heads → (s : Status) (x : List ℕ) → OfFile (jobs.Run tr w fuel heads name) bytes s x → s ≡ Done
read_file tr w fuel heads name bytes h s x o =
    done_file (jobs.Run tr w fuel heads name) bytes h.term h.names h.file h.read.ends s x o

-- one tree is read back of a file, with the same names
one_read : (tr : Translation) (a b : List ℕ) (fuel heads : ℕ) → a ≡ b →
    (h : HasTree tr a fuel heads) (h' : HasTree tr b fuel heads) → (h.names ≡ h'.names) × (h.tree ≡ h'.tree)
one_read tr a b fuel heads e h h' =
    let file' = subst (λ b. IsTermFile tr b h'.term h'.names) (sym e) h'.file in
    let same = one_file a h.term h'.term h.names h'.names h.file.file file'.file in
    let last = subst (λ t. ReadsLast tr t h'.names fuel heads h.tree) same.0
    (subst (λ names. ReadsLast tr h.term names fuel heads h.tree) same.1 h.read) in (
      same.1,
      one_last_tree tr h'.term h'.names
          (file_net tr a h'.term h'.names file'.file) fuel heads h.tree h'.tree last h'.read,
    )

-- two files have one comparison
one_compared : (tr : Translation) (a a' b b' : List ℕ) (fuel heads : ℕ) → a ≡ a' → b ≡ b' →
    (x : HasTree tr a fuel heads) (x' : HasTree tr a' fuel heads) (y : HasTree tr b fuel heads)
    (y' : HasTree tr b' fuel heads) →
    (text text' : List ℕ) → Compares x y text → Compares x' y' text' → text ≡ text'
one_compared tr a a' b b' fuel heads e f x x' y y' text text' (c, h, is) (c', h', is') =
    let u = one_read tr a a' fuel heads e x x' in
    let v = one_read tr b b' fuel heads f y y' in
    let names : ◌≡◌ {A = TreeWithNames} (record { a = x.names; b = y.names }) (record { a = x'.names; b = y'.names }) =
    ap (λ (ns : List (List ℕ)). record { a = ns; b = y.names }) u.0
    ∙ ap (λ (ns : List (List ℕ)). record { a = x'.names; b = ns }) v.0 in
    let moved = subst (λ n. IsComparison n x'.tree y'.tree c) names
    (subst (λ t. IsComparison (record { a = x.names; b = y.names }) x'.tree t c) v.1
    (subst (λ t. IsComparison (record { a = x.names; b = y.names }) t y.tree c) u.1 h)) in
    is ∙ ap (λ c. line (compared_text c))
    (comparison_is_one (record { a = x'.names; b = y'.names }) x'.tree y'.tree c c' moved h') ∙ sym is'

-- ---- a job

-- the job is done on one term, that of its one file
abbrev IsOnTerm : Job → Type 0
IsOnTerm (jobs.Check translation term journal) = ⊥
IsOnTerm (jobs.Gen translation runs k) = ⊥
IsOnTerm (jobs.Net translation false workers fuel name) = ⊥
IsOnTerm (jobs.Equal translation workers fuel heads first second) = ⊥
IsOnTerm _ = Unit {0}

-- a file that is refused has no term within the limits
pub not_refused : (tr : Translation) (term journal : Text) (bytes : List ℕ) (t : Tree)
    (names : List (List ℕ)) (s : Status) (x : List ℕ) → OfFile (jobs.Check tr term journal) bytes s x →
    IsTermFile tr bytes t names → ⊥
not_refused tr term journal bytes t names s x (too_long l h) i = let b = i.short in omega arith
not_refused tr term journal bytes t names s x (refused l at r h) i = r.0 i.file.named i.file.text
not_refused tr term journal bytes t names s x (has_term l u others f h) i = go h
  where
    same : (t ≡ u) × (names ≡ others)
    same = one_file bytes t u names others i.file f

    go : OfTree (jobs.Check tr term journal) u others s x → ⊥
    go (too_deep d h) = let b = i.shallow in let e = ap depth same.0 in omega arith
    go (too_large d z h) = let b = i.small in let e = ap (size_of_translation tr) same.0 in omega arith
    go (done d z h) = h

-- what is found of a journal, by cases
pub data OfJournal (tr : Translation) (t : Tree) (names : List (List ℕ)) (journal : List ℕ)
    (s : Status) (x : List ℕ) : Type 0 where
  past : 402653184 < length journal → Same s Limit x journal_text → OfJournal tr t names journal s x
  found : length journal ≤ 402653184 → (v : Check) →
      OnlyIsFound (start_net_of_term tr t names) journal v → Same s Done x (found_text v) →
      OfJournal tr t names journal s x

pub of_journal_answer : (tr : Translation) (t : Tree) (names : List (List ℕ)) (journal : List ℕ)
    (s : Status) (x : List ℕ) → JournalAnswer tr t names journal s x → OfJournal tr t names journal s x
of_journal_answer tr t names journal Limit x h = past h.0 (refl, h.1)
of_journal_answer tr t names journal Done x h = found h.0 h.1.0 h.1.1 (refl, h.1.2)
of_journal_answer tr t names journal _ x h = absurd h

one_journal : (tr : Translation) (t : Tree) (names : List (List ℕ)) (journal : List ℕ)
    (s s' : Status) (x x' : List ℕ) → OfJournal tr t names journal s x →
    OfJournal tr t names journal s' x' → Same s s' x x'
one_journal tr t names journal s s' x x' (past l h) (past l' h') = same_as s s' Limit x x' journal_text h h'
one_journal tr t names journal s s' x x' (past l h) (found l' v f h') = absurd (omega arith)
one_journal tr t names journal s s' x x' (found l v f h) (past l' h') = absurd (omega arith)
one_journal tr t names journal s s' x x' (found l v f h) (found l' w g h') =
    let e : v ≡ w = (f w).1 ((g w).0 refl) in
    (h.0 ∙ sym h'.0, h.1 ∙ ap found_text e ∙ sym h'.1)

one_making : (tr : Translation) (runs : Bool) (k : ℕ) (s s' : Status) (x x' : List ℕ) →
    Makes tr runs k s x → Makes tr runs k s' x' → Same s s' x x'
one_making tr false k s s' x x' m m' = (m.0 ∙ sym m'.0, m.1 ∙ sym m'.1)
one_making tr true k s s' x x' m m' =
    let e = one_file_answer (plain_run tr) (doubled_text k) s s' x x' m m' in
    (e.0, e.1)

pub one_bytes : (told : Option (List ℕ)) (a b : List ℕ) → told ≡ Some a → told ≡ Some b → a ≡ b
one_bytes told a b e f = let z : Some a ≡ Some b = sym e ∙ f in cc

module _ (files : Files) where
  one_checked : (tr : Translation) (term journal : Text) (s s' : Status) (x x' : List ℕ) →
      JobAnswer files s x (jobs.Check tr term journal) → JobAnswer files s' x' (jobs.Check tr term journal) → Same s s' x x'
  one_checked tr term journal s s' x x' (of_file {bytes = a} has e h) (of_file {bytes = b} has' e' h') =
      let k = one_file_answer (jobs.Check tr term journal) b s s' x x'
      (subst (λ a. FileAnswer (jobs.Check tr term journal) a s x) (one_bytes (files 0 term) a b e e') h) h' in
      (k.0, k.1)
  one_checked tr term journal s s' x x' (of_file {bytes = a} has e h)
      (of_journal {bytes = b} {t = t} {names = names} e' i f' h') =
      absurd (not_refused tr term journal b t names s x
      (of_file_answer (jobs.Check tr term journal) b s x
      (subst (λ a. FileAnswer (jobs.Check tr term journal) a s x) (one_bytes (files 0 term) a b e e') h)) i)
  one_checked tr term journal s s' x x' (of_journal {bytes = b} {t = t} {names = names} e i f h)
      (of_file {bytes = a} has' e' h') =
      absurd (not_refused tr term journal b t names s' x'
      (of_file_answer (jobs.Check tr term journal) b s' x'
      (subst (λ a. FileAnswer (jobs.Check tr term journal) a s' x') (one_bytes (files 0 term) a b e' e) h')) i)
  one_checked tr term journal s s' x x'
      (of_journal {bytes = a} {trace = u} {t = t} {names = names} e i f h)
      (of_journal {bytes = b} {trace = v} {t = t'} {names = names'} e' i' f' h') =
      let same_file = subst (λ b. IsTermFile tr b t' names') (one_bytes (files 0 term) b a e' e) i' in
      let term_is = one_file a t' t names' names same_file.file i.file in
      let trace_is = one_bytes (files 1 journal) v u f' f in
      let h'' = subst (λ t. JournalAnswer tr t names u s' x') term_is.0
      (subst (λ names. JournalAnswer tr t' names u s' x') term_is.1
      (subst (λ v. JournalAnswer tr t' names' v s' x') trace_is h')) in
      one_journal tr t names u s s' x x' (of_journal_answer tr t names u s x h)
      (of_journal_answer tr t names u s' x' h'')

  one_on_file : (job : Job) → IsOnTerm job → (s s' : Status) (x x' : List ℕ) →
      JobAnswer files s x job → JobAnswer files s' x' job → Alike job s s' x x'
  one_on_file job on s s' x x' (of_file {bytes = a} has e h) (of_file {bytes = b} has' e' h') =
      one_file_answer job b s s' x x' (subst (λ a. FileAnswer job a s x)
      (one_bytes (files 0 (file_name job)) a b e e') h) h'
  one_on_file job on s s' x x' (of_file has e h) (of_journal e' i f' h') = absurd on
  one_on_file job on s s' x x' (of_file has e h) (made m) = absurd on
  one_on_file job on s s' x x' (of_journal e' i f' h') k = absurd on
  one_on_file job on s s' x x' (made m) k = absurd on
  one_on_file job on s s' x x' (of_file has e h) (of_net_file e' h') = absurd on
  one_on_file job on s s' x x' (of_file has e h) (of_first e' isnt' h') = absurd on
  one_on_file job on s s' x x' (of_file has e h) (of_second e' t' f' isnt' h') = absurd on
  one_on_file job on s s' x x' (of_file has e h) (of_both e' t' f' u' is' h') = absurd on
  one_on_file job on s s' x x' (of_net_file e h) k = absurd on
  one_on_file job on s s' x x' (of_first e isnt h) k = absurd on
  one_on_file job on s s' x x' (of_second e t f isnt h) k = absurd on
  one_on_file job on s s' x x' (of_both e t f u is h) k = absurd on

  -- what `run` answers to bytes that another file's name has is one answer
  one_of_run : (tr : Translation) (w fuel heads : ℕ) (name : Text) (told : Option (List ℕ))
      (a b : List ℕ) → told ≡ Some a → told ≡ Some b → (s s' : Status) (x x' : List ℕ) →
      FileAnswer (jobs.Run tr w fuel heads name) a s x → FileAnswer (jobs.Run tr w fuel heads name) b s' x' → Same s s' x x'
  one_of_run tr w fuel heads name told a b e e' s s' x x' h h' =
      let k = one_file_answer (jobs.Run tr w fuel heads name) b s s' x x'
      (subst (λ a. FileAnswer (jobs.Run tr w fuel heads name) a s x) (one_bytes told a b e e') h) h' in
      (k.0, k.1)

  -- a file whose term is read back is no refusal
  not_read : (tr : Translation) (w fuel heads : ℕ) (name : Text) (told : Option (List ℕ))
      (a b : List ℕ) → told ≡ Some a → told ≡ Some b → HasTree tr a fuel heads → (s : Status) (x : List ℕ) → s ≢ Done →
      FileAnswer (jobs.Run tr w fuel heads name) b s x → ⊥
  not_read tr w fuel heads name told a b e e' t s x isnt h =
      isnt (read_file tr w fuel heads name b
      (subst (λ a. HasTree tr a fuel heads) (one_bytes told a b e e') t) s x
      (of_file_answer (jobs.Run tr w fuel heads name) b s x h))

  one_equal : (tr : Translation) (w fuel heads : ℕ) (a b : Text) (s s' : Status) (x x' : List ℕ) →
      JobAnswer files s x (jobs.Equal tr w fuel heads a b) →
      JobAnswer files s' x' (jobs.Equal tr w fuel heads a b) → Same s s' x x'
  one_equal tr w f q a b s s' x x' (of_file has e h) k = absurd has
  one_equal tr w f q a b s s' x x' (of_first e isnt h) (of_file has e' h') = absurd has
  one_equal tr w f q a b s s' x x' (of_first {bytes = m} e isnt h)
      (of_first {bytes = n} e' isnt' h') = one_of_run tr w f q a (files 0 a) m n e e' s s' x x' h h'
  one_equal tr w f q a b s s' x x' (of_first {bytes = m} e isnt h)
      (of_second {bytes = n} e' t' f' isnt' h') = absurd (not_read tr w f q a (files 0 a) n m e' e t' s x isnt h)
  one_equal tr w f q a b s s' x x' (of_first {bytes = m} e isnt h)
      (of_both {bytes = n} e' t' f' u' is' h') = absurd (not_read tr w f q a (files 0 a) n m e' e t' s x isnt h)
  one_equal tr w f q a b s s' x x' (of_second e t d isnt h) (of_file has e' h') = absurd has
  one_equal tr w f q a b s s' x x' (of_second {bytes = m} e t d isnt h)
      (of_first {bytes = n} e' isnt' h') = absurd (not_read tr w f q a (files 0 a) m n e e' t s' x' isnt' h')
  one_equal tr w f q a b s s' x x' (of_second {bytes' = m} e t d isnt h)
      (of_second {bytes' = n} e' t' d' isnt' h') = one_of_run tr w f q b (files 1 b) m n d d' s s' x x' h h'
  one_equal tr w f q a b s s' x x' (of_second {bytes' = m} e t d isnt h)
      (of_both {bytes' = n} e' t' d' u' is' h') = absurd (not_read tr w f q b (files 1 b) n m d' d u' s x isnt h)
  one_equal tr w f q a b s s' x x' (of_both e t d u is h) (of_file has e' h') = absurd has
  one_equal tr w f q a b s s' x x' (of_both {bytes = m} e t d u is h)
      (of_first {bytes = n} e' isnt' h') = absurd (not_read tr w f q a (files 0 a) m n e e' t s' x' isnt' h')
  one_equal tr w f q a b s s' x x' (of_both {bytes' = m} e t d u is h)
      (of_second {bytes' = n} e' t' d' isnt' h') = absurd (not_read tr w f q b (files 1 b) m n d d' u s' x' isnt' h')
  one_equal tr w f q a b s s' x x' (of_both {bytes = m} {bytes' = n} e t d u is h)
      (of_both {bytes = m'} {bytes' = n'} e' t' d' u' is' h') = (
        is ∙ sym is',
        one_compared tr m m' n n' f q (one_bytes (files 0 a) m m' e e')
            (one_bytes (files 1 b) n n' d d') t t' u u' x x' h h',
      )

  one_of_net_job : (tr : Translation) (w fuel : ℕ) (name : Text) (s s' : Status) (x x' : List ℕ) →
      JobAnswer files s x (jobs.Net tr false w fuel name) →
      JobAnswer files s' x' (jobs.Net tr false w fuel name) → Alike (jobs.Net tr false w fuel name) s s' x x'
  one_of_net_job tr w fuel name s s' x x' (of_file has e h) k = absurd has
  one_of_net_job tr w fuel name s s' x x' (of_net_file e h) (of_file has e' h') = absurd has
  one_of_net_job tr w fuel name s s' x x' (of_net_file {bytes = a} e h) (of_net_file {bytes = b} e' h') =
      one_net_file tr w name fuel b s s' x x'
      (subst (λ a. NetFileAnswer fuel a s x) (one_bytes (files 0 name) a b e e') h) h'

  one_made : (tr : Translation) (runs : Bool) (k : ℕ) (s s' : Status) (x x' : List ℕ) →
      JobAnswer files s x (jobs.Gen tr runs k) → JobAnswer files s' x' (jobs.Gen tr runs k) → Same s s' x x'
  one_made tr runs k s s' x x' (of_file has e h) a = absurd has
  one_made tr runs k s s' x x' (made m) (of_file has e h) = absurd has
  one_made tr runs k s s' x x' (made m) (made m') = one_making tr runs k s s' x x' m m'

  pub one_of_job : (job : Job) → (s s' : Status) (x x' : List ℕ) → JobAnswer files s x job →
      JobAnswer files s' x' job → Alike job s s' x x'
  one_of_job (jobs.Check tr term journal) s s' x x' a a' = one_checked tr term journal s s' x x' a a'
  one_of_job (jobs.Net tr false w f name) s s' x x' a a' = one_of_net_job tr w f name s s' x x' a a'
  one_of_job (jobs.Equal tr w f q first second) s s' x x' a a' = one_equal tr w f q first second s s' x x' a a'
  one_of_job (jobs.Gen tr runs k) s s' x x' a a' = one_made tr runs k s s' x x' a a'
  one_of_job job s s' x x' a a' = one_on_file job tt s s' x x' a a'

-- ---- words and files

pub data OfWords (words : List (String Global)) (files : Files) (s : Status) (x : List ℕ) : Type 0 where
  no_job : AskForNothing words → Same s Usage x usage_text → OfWords words files s x
  of_job : (job : Job) → AskFor words job → JobAnswer files s x job → OfWords words files s x

pub of_words : (words : List (String Global)) (files : Files) (s : Status) (x : List ℕ) →
    IsAnswer words files s x → OfWords words files s x
of_words words files Usage x a = no_job a.0 (refl, a.1)
of_words words files s x a = of_job a.0 a.1 (answer_cases files s x a.0 a.2)

-- words ask for one job
pub one_job : (words : List (String Global)) (a b : Job) → AskFor words a → AskFor words b → a ≡ b
one_job words a b h h' = let e : Some a ≡ Some b = sym h ∙ h' in cc

-- the answer to words that ask for a job is that to the job
pub own_job : (words : List (String Global)) (files : Files) (job : Job) → AskFor words job →
    (s : Status) (x : List ℕ) → IsAnswer words files s x → JobAnswer files s x job
own_job words files job j s x a = go (of_words words files s x a)
  where
    go : OfWords words files s x → JobAnswer files s x job
    go (no_job j' h) = let e = sym j ∙ j' in absurd (cc)
    go (of_job job' j' h) = subst (λ a. JobAnswer files s x a) (one_job words job' job j' j) h
