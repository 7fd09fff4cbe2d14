-- Two wrong comparisons answer what isn't so: for the law `wrong_comparisons_mislead`.
use Rattle.std.proofs.Common.{◌≡◌, ℕ, true, List, [], ◌∷◌, refl, sym, ap, ◌∙◌, arith}
use Rattle.std.specs.Prelude.{codes, slice_index_or}
use Rattle.ol_beta.proofs.Redexes.{no_leftmost}
use Rattle.ol_readback.specs.Whole.{term, cut, none, more, IsWholeTree}
use Rattle.ol_readback.specs.declared.answers.HeadVar.TheVariants as var
use Rattle.ol_readback.specs.declared.answers.ReadNode.{ReadNode}
use Rattle.ol_equal.specs.Comparing.{TreeWithNames}
use Rattle.ol_law_meaning.specs.Contraction.{Tree, free, app}
use Rattle.ol_law_meaning.specs.Shows.{ready, BetaReduces}
use Rattle.ol_law_meaning.specs.Meaning.{SaysOf}
use Rattle.ol_law_confluence.specs.Reductions.{Convertible, same, turned, joined}
use Rattle.ol_law_confluence.specs.Compared.{number_of, ShareNormalForm}
use Rattle.ol_law_confluence.specs.WrongComparisons.{first_name, argument_cut, NumbersMislead, CutMisleads}
use Rattle.ol_law_confluence.proofs.Meetings.{convertible, convertible_normal}
use Rattle.ol_law_confluence.proofs.Renamings.{number_of_one}

says_name : SaysOf (free 0) true first_name
says_name = record {
  tree = term 0 (var.Free 1) none;
  is_list = refl;
  reduct = free 0;
  reduces = ready;
  fills = ([], refl, refl);
  leftmost = λ h. ready;
  normal = λ h. no_leftmost (free 0) refl;
  endless = λ e h v r n. absurd h;
}

says_front : SaysOf (app (free 0) (free 0)) true argument_cut
says_front = record {
  tree = term 0 (var.Free 1) (more cut none);
  is_list = refl;
  reduct = app (free 0) (free 0);
  reduces = ready;
  fills = (free 0 ∷ [], refl, (tt, refl));
  leftmost = λ h. absurd h;
  normal = λ h. absurd h;
  endless = λ e h v r n. absurd h;
}

name_is_whole : IsWholeTree first_name
name_is_whole = record { tree = term 0 (var.Free 1) none; is_list = refl; bound = (tt, tt) }

front_is_whole : IsWholeTree argument_cut
front_is_whole =
    record { tree = term 0 (var.Free 1) (more cut none); is_list = refl; bound = (tt, (tt, tt)) }

-- a free name by its bytes is a normal form, so two that reduce to one term are one
one_name : (n m : ℕ) → ShareNormalForm (free n) (free m) → free n ≡ free m
one_name n m s =
    convertible_normal (joined (convertible s.first) (turned (convertible s.second))) ready
    (no_leftmost (free n) refl) ready (no_leftmost (free m) refl)

one_number : (n m : ℕ) → free n ≡ free m → n ≡ m
one_number n m e = cc

pub letters_apart : codes "a" ≡ codes "b" → ⊥
letters_apart e =
    let f : 97 ≡ 98 = ap (λ (bytes : List ℕ). slice_index_or bytes 0 0) e in
    absurd (omega (arith, f))

pub numbers_mislead : NumbersMislead
numbers_mislead = record {
  printed = record {
    first = says_name;
    second = says_name;
    first_whole = name_is_whole;
    second_whole = name_is_whole;
  };
  not_so =
      λ s. let e : codes "a" ≡ codes "b" = number_of_one (codes "a") (codes "b")
      (one_number (number_of (codes "a")) (number_of (codes "b"))
      (one_name (number_of (codes "a")) (number_of (codes "b")) s)) in
      letters_apart e;
}

pub cut_misleads : CutMisleads
cut_misleads = record {
  printed = record {
    first = says_front;
    second = says_front;
    first_whole = front_is_whole;
    second_whole = front_is_whole;
  };
  not_so = λ tells. tells same;
}
