-- Words that are read as a page write that page.
use Rattle.std.proofs.Common.{◌≡◌, ℕ, ◌+◌, eqb, List, [], ◌∷◌, ◌++◌, length, Ok, sym, refl, ap, ◌∙◌, subst, inl, inr, zero-add}
use Rattle.std.proofs.lemmas.Bool.{cond-true, cond-false, cases_Bool, eqb-true}
use Rattle.period.proofs.Taken.{Taken}
use Rattle.period.proofs.WholePages.{page_takes}
use Rattle.period.specs.Pages.{Page, body, WithinLimits, Writes}
use Rattle.period.specs.Reader.{offends, end, close, read}
use Rattle.period.specs.Words.{word, closing_kind}

pub end_inverts : (p q : Page) (ws : List ℕ) (place : ℕ) → end p ws place ≡ Ok q → (ws ≡ []) × (p ≡ q)
end_inverts p q [] place e = (refl, cc)
end_inverts p q (w ∷ ws) place e = cc

pub close_inverts : (p q : Page) (ws : List ℕ) (place : ℕ) → close p ws place ≡ Ok q → (ws ≡ word closing_kind place ∷ []) × (p ≡ q)
close_inverts p q [] place e = cc
close_inverts p q (w ∷ ws) place e =
    elim (cases_Bool (eqb w (word closing_kind place))) [
      | inl t ↦ let h = end_inverts p q ws (place + 1) (sym (cond-true (eqb w (word closing_kind place)) _ _ t) ∙ e) in (cc (eqb-true w (word closing_kind place) t), h.1)
      | inr t ↦ let f = sym (cond-false (eqb w (word closing_kind place)) (end p ws (place + 1)) (offends _ place) t) ∙ e in cc
    ]

-- what is read as a page writes that page
pub written_read : (p : Page) (ws : List ℕ) → read ws ≡ Ok p → Writes p ws
written_read p ws e =
    elim (page_takes.way close ws 0) [
      | inl t ↦ taken t
      | inr s ↦ let f = sym s.offence ∙ e in cc
    ]
  where
    taken : Taken body WithinLimits close ws 0 (read ws) → Writes p ws
    taken t =
        let h = close_inverts t.value p t.rest (length (body t.value)) (ap (close t.value t.rest) (sym (zero-add (length (body t.value)))) ∙ sym t.goes_on ∙ e) in
        subst (λ (q : Page). Writes q ws) h.1 (record { within = t.within; as_written = t.begins ∙ ap (λ (x : List ℕ). body t.value ++ x) h.0 })
