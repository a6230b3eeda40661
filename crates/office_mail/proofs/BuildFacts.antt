-- Binaries of a build, and the paragraphs that they are read from.
use Rattle.std.proofs.Common.{◌≡◌, ℕ, ◌+◌, ◌<◌, ◌≤◌, List, [], ◌∷◌, ◌++◌, length, get_or, Result, Ok, Err, ◌⊎◌, inl, inr, refl, sym, ap, ◌∙◌, ⊎_elim, arith}
use Rattle.std.proofs.lemmas.Bool.{cases_lt}
use Rattle.std.proofs.lemmas.List.{get_or_append_left, get_or_push, get_or_default, length_push}
use Rattle.deb_control.specs.Binary.{binary_of}
use Rattle.deb_control.specs.declared.binary.Binary.{Binary}
use Rattle.deb_control.specs.declared.fault.BinaryFault.{BinaryFault}
use Rattle.deb_control.specs.declared.fault.BinaryFault.TheVariants as binary_fault
use Rattle.office_mail_setup.specs.WholeText.{Paragraph}
use Rattle.office_mail.specs.steps.Answers.{Gives}
use Rattle.office_mail.specs.Read.{of_binary, binary_in}
use Rattle.office_mail.specs.steps.BuildSteps.{AreRead}

same : {A E : Type 0} (r : Result A E) (a b : A) → r ≡ Ok a → r ≡ Ok b → a ≡ b
same r a b e f = cc

binary_ok : (r : Result Binary BinaryFault) (b : Binary) → of_binary r ≡ Ok b → r ≡ Ok b
binary_ok (Ok x) b e = ap Ok (same (of_binary (Ok x)) x b refl e)
binary_ok (Err x) b e = absurd cc

-- what was read of a binary, as mail has it, where it is what was described, unless memory ran out
pub told_as_mail : (r said : Result Binary BinaryFault) → (r ≡ said) ⊎ (r ≡ Err binary_fault.NoMemory) → Gives (of_binary r) (of_binary said)
told_as_mail (Ok b) said (inl e) = ap of_binary (sym e)
told_as_mail (Ok b) said (inr e) = absurd cc
told_as_mail (Err (binary_fault.MissingField f)) said (inl e) = ap of_binary (sym e)
told_as_mail (Err (binary_fault.MissingField f)) said (inr e) = absurd cc
told_as_mail (Err (binary_fault.BadName f)) said (inl e) = ap of_binary (sym e)
told_as_mail (Err (binary_fault.BadName f)) said (inr e) = absurd cc
told_as_mail (Err (binary_fault.BadVersion f)) said (inl e) = ap of_binary (sym e)
told_as_mail (Err (binary_fault.BadVersion f)) said (inr e) = absurd cc
told_as_mail (Err (binary_fault.BadRelation f)) said (inl e) = ap of_binary (sym e)
told_as_mail (Err (binary_fault.BadRelation f)) said (inr e) = absurd cc
told_as_mail (Err binary_fault.NoMemory) said e = tt

-- what a paragraph says is the binary that it describes
described : (p : Paragraph) (b : Binary) → binary_in p ≡ Ok b → binary_of p ≡ Ok b
unfolding binary_in
described p b e = binary_ok (binary_of p) b e

pub none_read : (ps : List Paragraph) (bs : List Binary) → bs ≡ [] → AreRead ps bs
none_read ps bs none_yet =
    let empty : length bs ≡ 0 = ap (λ (xs : List Binary). length xs) none_yet in
    record {
      within = omega (arith, empty);
      says = λ i p b h. absurd (omega (arith, empty, h));
    }

-- the paragraph at the next place, and its binary
pub one_more_read : (ps : List Paragraph) (bs : List Binary) (n : ℕ) (p : Paragraph) (b : Binary) → AreRead ps bs → length bs ≡ n → n < length ps → p ≡ get_or ps n p → binary_in p ≡ Ok b → AreRead ps (bs ++ b ∷ [])
one_more_read ps bs n p b known count some at e =
    let longer : length (bs ++ b ∷ []) ≡ length bs + 1 = length_push bs b in
    record {
      within = omega (arith, longer, count, some);
      says = λ i q c h. ⊎_elim
          (λ (below : i < length bs). known.says i q c below ∙ ap Ok (sym (get_or_append_left bs (b ∷ []) c i below)))
          (λ (above : length bs ≤ i).
          let here : i ≡ n = omega (arith, longer, count, h, above) in
          let last : length bs ≡ i = omega (arith, count, here) in
          let read : get_or ps n q ≡ p = get_or_default ps n q p some ∙ sym at in
          ap (λ (k : ℕ). binary_of (get_or ps k q)) here ∙ ap binary_of read ∙ described p b e ∙ ap Ok (sym (get_or_push bs b c i last)))
          (cases_lt i (length bs));
    }
