-- What `equal` and `certify` tell of the terms of their files.
use Rattle.std.proofs.Common.{◌≡◌, ℕ, ◌*◌, true, List, Option, sym, subst, subst₂, inr, String, Global}
use Rattle.ol_term.specs.declared.translations.Translation.{Translation}
use Rattle.ol_term.specs.Trees.{Tree}
use Rattle.ol_readback.specs.Heads.{live}
use Rattle.ol_readback.specs.Whole.{IsWholeTree}
use Rattle.ol_readback.proofs.Forests.{tree_is_whole}
use Rattle.ol_law_meaning.specs.Meaning.{SaysOf}
use Rattle.ol_law_meaning.proofs.FileNames.{file_names}
use Rattle.ol_law_confluence.proofs.ComparedTrees.{comparison_tells, not_apart}
use Rattle.ol_equal.specs.declared.answers.Compared.{Compared}
use Rattle.ol_equal.specs.Comparing.{TreeWithNames, place_at, IsFirstApart, IsComparison}
use Rattle.ol_equal.specs.Texts.{compared_text}
use Rattle.ol_io.specs.Outside.{Appended}
use Rattle.ol_parse.specs.Parsed.{IsFileOf}
use Rattle.ol_parse.proofs.Exact.{one_file}
use Rattle.ol_words.specs.Texts.{Text}
use Rattle.ol_words.specs.declared.jobs.Job.{Job}
use Rattle.ol_words.specs.declared.jobs.Job.TheVariants as jobs
use Rattle.ol_law_confluence.specs.Reductions.{Convertible}
use Rattle.ol_law_confluence.specs.Compared.{by_bytes, TellsTerms, ArePrinted, IsHeadBesideLost}
use Rattle.ol_cli.specs.Texts.{line}
use Rattle.ol_cli.specs.declared.status.Status.{Status}
use Rattle.ol_cli.specs.declared.status.Status.TheVariants.{Done}
use Rattle.ol_cli.specs.Equal.{HasTree}
use Rattle.ol_cli.specs.Cases.{FileAnswer, JobAnswer, of_file, of_first, of_second, of_both}
use Rattle.ol_cli.specs.Answers.{IsAnswer}
use Rattle.ol_cli.specs.Jobs.{Files}
use Rattle.ol_cli.specs.Certify.{Certifies}
use Rattle.ol_cli.specs.SourceLaws.{TellsOfTwo, TellsSources, WritesOfSources, ComparisonTellsSources}
use Rattle.ol_cli.specs.SourceLaws.{HeadBesideLostTellsSources}
use Rattle.ol_cli.proofs.OneAnswer.{own_job, one_bytes}
use Rattle.ol_cli.proofs.VerdictTexts.{says}

says_of : (tr : Translation) (bytes : List ℕ) (fuel heads : ℕ) (x : HasTree tr bytes fuel heads) →
    SaysOf x.term true x.tree
says_of tr bytes fuel heads x =
    says tr x.term x.names fuel heads x.tree (file_names bytes x.term x.names x.file.file) x.read

is_whole : (tr : Translation) (bytes : List ℕ) (fuel heads : ℕ) (x : HasTree tr bytes fuel heads) →
    IsWholeTree x.tree
is_whole tr bytes fuel heads x =
    tree_is_whole x.read.ends.net heads (2 * live x.read.ends.net) x.tree x.read.read

are_printed : (tr : Translation) (bytes bytes' : List ℕ) (fuel heads : ℕ)
    (x : HasTree tr bytes fuel heads) (y : HasTree tr bytes' fuel heads) →
    ArePrinted x.term y.term true true x.tree y.tree
are_printed tr bytes bytes' fuel heads x y = record {
  first = says_of tr bytes fuel heads x;
  second = says_of tr bytes' fuel heads y;
  first_whole = is_whole tr bytes fuel heads x;
  second_whole = is_whole tr bytes' fuel heads y;
}

pub comparison_tells_sources : ComparisonTellsSources
comparison_tells_sources tr bytes bytes' fuel heads x y c h =
    comparison_tells (record { a = x.names; b = y.names }) x.term y.term true true x.tree y.tree
    (are_printed tr bytes bytes' fuel heads x y) c h

pub lost_tells_sources : HeadBesideLostTellsSources
lost_tells_sources tr bytes bytes' fuel heads x y k path apart lost z =
    not_apart (record { a = x.names; b = y.names }) true true x.term y.term x.tree y.tree
    (are_printed tr bytes bytes' fuel heads x y) k path apart (inr lost) z

-- ---- the line of `equal`

-- what is said of the terms and names by which a tree was come by is said of those of the file
moved : (P : TreeWithNames → Tree → Tree → Type 0) (n n' m m' : List (List ℕ))
    (t t' u u' : Tree) → n ≡ n' → m ≡ m' → t ≡ t' → u ≡ u' →
    P (record { a = n; b = m }) t u → P (record { a = n'; b = m' }) t' u'
moved P n n' m m' t t' u u' e f g h x =
    subst (λ u. P (record { a = n'; b = m' }) t' u) h
    (subst (λ t. P (record { a = n'; b = m' }) t u) g
    (subst (λ m. P (record { a = n'; b = m }) t u) f
    (subst (λ n. P (record { a = n; b = m }) t u) e x)))

module _ (tr : Translation) (a b : List ℕ) (fuel heads : ℕ) (x : HasTree tr a fuel heads)
    (y : HasTree tr b fuel heads) (t u : Tree) (names others : List (List ℕ))
    (f : IsFileOf a t names) (g : IsFileOf b u others) (old new : Option (List ℕ)) where
  of_file_too : (P : TreeWithNames → Tree → Tree → Type 0) →
      P (record { a = x.names; b = y.names }) x.term y.term →
      P (record { a = names; b = others }) t u
  of_file_too P h =
      let p = one_file a x.term t x.names names x.file.file f in
      let q = one_file b y.term u y.names others y.file.file g in
      moved P x.names names y.names others x.term t y.term u p.1 q.1 p.0 q.0 h

  compares_both : (c : Compared) →
      IsComparison (record { a = x.names; b = y.names }) x.tree y.tree c →
      Appended old (line (compared_text c)) new →
      TellsOfTwo tr fuel heads a b (record { a = names; b = others }) t u old new
  compares_both c h w = record {
    first = x;
    second = y;
    compared = c;
    comparison = of_file_too (λ n t u. IsComparison n x.tree y.tree c) h;
    tells =
        of_file_too (λ n t u. TellsTerms n t u c)
        (comparison_tells_sources tr a b fuel heads x y c h);
    beside_lost =
        of_file_too
        (λ n t u. (k : ℕ) (path : List ℕ) → IsFirstApart n x.tree y.tree k path →
        IsHeadBesideLost true true (place_at x.tree k) (place_at y.tree k) →
        Convertible (by_bytes n.a t) (by_bytes n.b u) → ⊥)
        (lost_tells_sources tr a b fuel heads x y);
    written = w;
  }

compares : (files : Files) (tr : Translation) (w fuel heads : ℕ) (a b : Text)
    (old new : Option (List ℕ)) (s : Status) (text : List ℕ) → s ≡ Done →
    Appended old text new → JobAnswer files s text (jobs.Equal tr w fuel heads a b) →
    TellsSources (jobs.Equal tr w fuel heads a b) files old new
compares files tr w fuel heads a b old new s text done ap (of_file has e h) = absurd has
compares files tr w fuel heads a b old new s text done ap (of_first e isnt h) = absurd (isnt done)
compares files tr w fuel heads a b old new s text done ap (of_second e x d isnt h) =
    absurd (isnt done)
compares files tr w fuel heads a b old new s text done ap
    (of_both {bytes = m} {bytes' = n} e x d y is h) =
    λ m' n' e' d' t u names others f g.
    let p = one_bytes (files 0 a) m' m e' e in
    let q = one_bytes (files 1 b) n' n d' d in
    subst₂ (λ m n. TellsOfTwo tr fuel heads m n (record { a = names; b = others }) t u old new)
    (sym p) (sym q)
    (compares_both tr m n fuel heads x y t u names others
    (subst (λ m. IsFileOf m t names) p f) (subst (λ n. IsFileOf n u others) q g) old new h.0 h.1
    (subst (λ text. Appended old text new) h.2 ap))

-- ---- the verdict of `certify`

certifies : (files : Files) (tr : Translation) (b w fuel heads : ℕ) (name : Text)
    (old new : Option (List ℕ)) (s : Status) (text : List ℕ) → s ≡ Done → Appended old text new →
    JobAnswer files s text (jobs.Certify tr b w fuel heads name) →
    TellsSources (jobs.Certify tr b w fuel heads name) files old new
certifies files tr b w fuel heads name old new s text done ap (of_file {bytes = m} has e h) =
    λ m' e' t names f.
    let x = subst (λ s. FileAnswer (jobs.Certify tr b w fuel heads name) m s text) done h in
    let p = one_bytes (files 0 name) m' m e' e in
    let q = one_file m x.0 t x.1 names x.2.file (subst (λ k. IsFileOf k t names) p f) in
    let c =
    subst (λ t. Certifies tr t names b fuel heads text) q.0
    (subst (λ ns. Certifies tr x.0 ns b fuel heads text) q.1 x.3) in (
      text,
      c,
      ap,
    )

-- a job that is done
by_job : (files : Files) (old new : Option (List ℕ)) (s : Status) (text : List ℕ) →
    s ≡ Done → Appended old text new → (job : Job) → JobAnswer files s text job →
    TellsSources job files old new
by_job files old new s text done ap (jobs.Equal tr w fuel heads a b) h =
    compares files tr w fuel heads a b old new s text done ap h
by_job files old new s text done ap (jobs.Certify tr b w f q name) h =
    certifies files tr b w f q name old new s text done ap h
by_job files old new s text done ap _ h = tt

pub writes_of_sources : (words : List (String Global)) (files : Files)
    (old new : Option (List ℕ)) (s : Status) → s ≡ Done →
    (text : List ℕ) × IsAnswer words files s text × Appended old text new →
    WritesOfSources words files old new
writes_of_sources words files old new s done r job j =
    by_job files old new s r.0 done r.2 job (own_job words files job j s r.0 r.1)
