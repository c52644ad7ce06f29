-- A refusal names the first offending word, and the part that it belongs to.
use Rattle.std.proofs.Common.{◌≡◌, ℕ, ◌+◌, eqb, ◌⊎◌, List, [], ◌∷◌, ◌++◌, length, take, drop, Ok, Err, sym, refl, ap, ◌∙◌, subst, inl, inr, append_assoc, zero-add, add-one, length-append, take-append-drop}
use Rattle.std.proofs.Math.Seq.{take-append_seam}
use Rattle.std.proofs.lemmas.Bool.{cond-true, cond-false, cases_Bool, eqb-true}
use Rattle.period.proofs.Completeness.{read_body, read_written}
use Rattle.period.proofs.Honest.{Offends, period_honest}
use Rattle.period.proofs.Soundness.{written_read}
use Rattle.period.proofs.Taken.{Taken, Stopped}
use Rattle.period.proofs.WholePages.{Early, page_takes}
use Rattle.period.specs.Offences.{FirstOffending, Complete, Belongs, Refused}
use Rattle.period.specs.Pages.{Page, body, written, WithinLimits, Writes}
use Rattle.period.specs.Reader.{offends, end, close, period, read}
use Rattle.period.specs.Words.{word, closing_kind}
use Rattle.period.specs.declared.refusals.Part.{Part}
use Rattle.period.specs.declared.refusals.Part.TheVariants.{Length, Types, Battery, HalfHour, Closing}
use Rattle.period.specs.declared.refusals.PeriodRefusal.{PeriodRefusal}

first_offence : (ws : List ℕ) (e : PeriodRefusal) → read ws ≡ Err e → FirstOffending ws e.place
first_offence ws e h = of_offence (period_honest.first ws 0 e h)
  where
    of_offence : Offends period ws 0 e → FirstOffending ws e.place
    of_offence o =
        subst (FirstOffending ws) (sym (o.stands ∙ zero-add o.count))
        (record {
          within = o.among;
          before = (o.before.0, o.before.1, written_read o.before.1 (take o.count ws ++ o.before.0) o.before.2);
          there = λ k rest p w.
              o.there k rest p (ap (λ (n : ℕ). read (take n ws ++ rest)) (sym (add-one o.count)) ∙ read_written p (take (o.count + 1) ws ++ rest) w);
        })

-- the closing word offends, or a word behind it
record ClosingOffence (ws : List ℕ) (place : ℕ) (e : PeriodRefusal) : Type 0 where
  pub closing : e.part ≡ Closing
  pub where_it_stands : (e.place ≡ place) ⊎ ((e.place ≡ place + 1) × ((more : List ℕ) × (ws ≡ word closing_kind place ∷ more)))

same_refusal : (part : Part) (place : ℕ) (e : PeriodRefusal) → offends part place ≡ Err e → e ≡ record { part = part; place = place }
same_refusal part place e h = cc

at_place : (ws : List ℕ) (place : ℕ) (e : PeriodRefusal) → offends Closing place ≡ Err e → ClosingOffence ws place e
at_place ws place e h =
    let k = same_refusal Closing place e h in
    record { closing = ap (λ (x : PeriodRefusal). x.part) k; where_it_stands = inl (ap (λ (x : PeriodRefusal). x.place) k) }

behind :
    (p : Page) (ws : List ℕ) (place : ℕ) (e : PeriodRefusal) → end p ws (place + 1) ≡ Err e → ClosingOffence (word closing_kind place ∷ ws) place e
behind p [] place e h = cc
behind p (w ∷ ws) place e h =
    let k = same_refusal Closing (place + 1) e h in
    record { closing = ap (λ (x : PeriodRefusal). x.part) k; where_it_stands = inr (ap (λ (x : PeriodRefusal). x.place) k, (w ∷ ws, refl)) }

close_refuses : (p : Page) (ws : List ℕ) (place : ℕ) (e : PeriodRefusal) → close p ws place ≡ Err e → ClosingOffence ws place e
close_refuses p [] place e h = at_place [] place e h
close_refuses p (w ∷ ws) place e h =
    elim (cases_Bool (eqb w (word closing_kind place))) [
      | inl t ↦ subst (λ (x : ℕ). ClosingOffence (x ∷ ws) place e) (sym (eqb-true w (word closing_kind place) t))
          (behind p ws place e (sym (cond-true (eqb w (word closing_kind place)) _ _ t) ∙ h))
      | inr t ↦ at_place (w ∷ ws) place e (sym (cond-false (eqb w (word closing_kind place)) (end p ws (place + 1)) (offends Closing place) t) ∙ h)
    ]

-- after the body of a page an offence comes when the page is complete
complete_before :
    (p : Page) (rest : List ℕ) (e : PeriodRefusal) → WithinLimits p → ClosingOffence rest (length (body p)) e → Complete (take e.place (body p ++ rest))
complete_before p rest e h c = by_place c.where_it_stands
  where
    last : List ℕ
    last = word closing_kind (length (body p)) ∷ []

    by_place :
        (e.place ≡ length (body p)) ⊎ ((e.place ≡ length (body p) + 1) × ((more : List ℕ) × (rest ≡ word closing_kind (length (body p)) ∷ more)))
        → Complete (take e.place (body p ++ rest))
    by_place (inl k) = (p, h, inl (ap (λ (n : ℕ). take n (body p ++ rest)) k ∙ take-append_seam (body p) rest))
    by_place (inr (k, (more, f))) = (
      p,
      h,
      inr (record {
        within = h;
        as_written =
            ap (λ (n : ℕ). take n (body p ++ rest)) (k ∙ sym (length-append (body p) last))
            ∙ ap (λ (x : List ℕ). take (length (written p)) (body p ++ x)) f
            ∙ ap (take (length (written p))) (sym (append_assoc (body p) last more))
            ∙ take-append_seam (written p) more;
      }),
    )

-- behind a complete page only its closing is refused
never_in_half_hour : (ws : List ℕ) (place : ℕ) → read ws ≡ offends HalfHour place → Complete (take place ws) → ⊥
never_in_half_hour ws place h (p, l, either) = by_words either
  where
    closing : (rest : List ℕ) → ws ≡ body p ++ rest → ⊥
    closing rest f =
        let c = close_refuses p rest (length (body p)) (record { part = HalfHour; place = place }) (sym (read_body p l rest) ∙ ap read (sym f) ∙ h) in
        let g : HalfHour ≡ Closing = c.closing in
        cc

    by_words : (take place ws ≡ body p) ⊎ Writes p (take place ws) → ⊥
    by_words (inl f) = closing (drop place ws) (sym (take-append-drop place ws) ∙ ap (λ (x : List ℕ). x ++ drop place ws) f)
    by_words (inr w) =
        closing (word closing_kind (length (body p)) ∷ drop place ws)
        (sym (take-append-drop place ws) ∙ ap (λ (x : List ℕ). x ++ drop place ws) w.as_written ∙ append_assoc (body p) (word closing_kind (length (body p)) ∷ []) (drop place ws))

early_belongs : (ws : List ℕ) (part : Part) (place : ℕ) → read ws ≡ offends part place → Early part place → Belongs part (take place ws) place
early_belongs ws Length place h s = s
early_belongs ws Types place h s = s
early_belongs ws Battery place h s = s
early_belongs ws HalfHour place h s = (s, never_in_half_hour ws place h)
early_belongs ws Closing place h s = absurd s

belongs : (ws : List ℕ) (e : PeriodRefusal) → read ws ≡ Err e → Belongs e.part (take e.place ws) e.place
belongs ws e h =
    elim (page_takes.way close ws 0) [
      | inl t ↦ taken t
      | inr s ↦ stopped s
    ]
  where
    taken : Taken body WithinLimits close ws 0 (read ws) → Belongs e.part (take e.place ws) e.place
    taken t =
        let c = close_refuses t.value t.rest (length (body t.value)) e (ap (close t.value t.rest) (sym (zero-add (length (body t.value)))) ∙ sym t.goes_on ∙ h) in
        subst (λ (part : Part). Belongs part (take e.place ws) e.place) (sym c.closing)
        (subst (λ (x : List ℕ). Complete (take e.place x)) (sym t.begins) (complete_before t.value t.rest e t.within c))

    stopped : Stopped Early 0 (read ws) → Belongs e.part (take e.place ws) e.place
    stopped s =
        let k = s.offence ∙ ap (offends s.part) (zero-add s.on) in
        subst (λ (x : PeriodRefusal). Belongs x.part (take x.place ws) x.place) (sym (same_refusal s.part s.on e (sym k ∙ h)))
        (early_belongs ws s.part s.on k s.spot)

-- words that are refused write no page down
none_written : (ws : List ℕ) (e : PeriodRefusal) → read ws ≡ Err e → (p : Page) → Writes p ws → ⊥
none_written ws e h p w = let f : Ok p ≡ Err e = sym (read_written p ws w) ∙ h in cc

-- what is refused is refused at its first offending word, under the part that this word belongs to
pub refused : (ws : List ℕ) (e : PeriodRefusal) → read ws ≡ Err e → Refused ws e
refused ws e h = record { no_period = none_written ws e h; first = first_offence ws e h; of_part = belongs ws e h }
