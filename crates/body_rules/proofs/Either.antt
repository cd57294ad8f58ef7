-- One part or the other.
use Rattle.std.proofs.Common.{◌≡◌, ◌||◌, Bool, true, false, sym, ap, ◌∙◌}

pub or_left : (r h b : Bool) → r ≡ true → r ≡ h → r ≡ (h || b)
or_left r h b t e = t ∙ ap (λ x. x || b) (sym t ∙ e)

pub or_right : (r h x b : Bool) → r ≡ false → r ≡ h → x ≡ b → x ≡ (h || b)
or_right r h x b f e g = g ∙ ap (λ y. y || b) (sym f ∙ e)
