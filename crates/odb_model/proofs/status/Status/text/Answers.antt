use Rattle.std.proofs.Common.{◌≡◌, ℕ, ◌++◌, ◌∙◌, ap, sym, codes, string_bytes, append_assoc}
use Rattle.std.specs.Fmt.{decimal}
use Rattle.std.proofs.lemmas.Result.{IfOk-weaker}
use Rattle.odb_model.specs.declared.status.Status.TheVariants.{Damaged, NotHeld, NotACopy}
use Rattle.odb_model.specs.Status.{text_of}
use Rattle.odb_model.proofs.status.Status.text.Goals as goal

text_of-Damaged : (file at : ℕ) → codes "optsql: damaged: file " ++ (decimal file ++ (codes " at " ++ decimal at)) ≡ text_of (Damaged file at)
text_of-Damaged file at = simp append_assoc

text_of-NotHeld : (bank mark first : ℕ) → codes "optsql: not held: bank " ++ (decimal bank ++ (codes " mark " ++ (decimal mark ++ (codes " first " ++ decimal first)))) ≡ text_of (NotHeld bank mark first)
text_of-NotHeld bank mark first = simp append_assoc

text_of-NotACopy : (bank file : ℕ) → codes "optsql: not a copy: bank " ++ (decimal bank ++ (codes " file " ++ decimal file)) ≡ text_of (NotACopy bank file)
text_of-NotACopy bank file = simp append_assoc

pub returns-in-Damaged : goal.returns-in-Damaged
returns-in-Damaged c =
    let said = codes "optsql: damaged: file " ++ (decimal c.in-Damaged.file ++ (codes " at " ++ decimal c.in-Damaged.at)) in
    let same : said ≡ text_of c.args.self = text_of-Damaged c.in-Damaged.file c.in-Damaged.at ∙ sym (ap text_of c.in-Damaged.is) in
    IfOk-weaker _ (λ text. string_bytes text ≡ said) (λ text. string_bytes text ≡ text_of c.args.self) (λ text e. e ∙ same) c.format-in-Damaged.ensures.ok

pub returns-in-NotHeld : goal.returns-in-NotHeld
returns-in-NotHeld c =
    let said = codes "optsql: not held: bank " ++ (decimal c.in-NotHeld.bank ++ (codes " mark " ++ (decimal c.in-NotHeld.mark ++ (codes " first " ++ decimal c.in-NotHeld.first)))) in
    let same : said ≡ text_of c.args.self = text_of-NotHeld c.in-NotHeld.bank c.in-NotHeld.mark c.in-NotHeld.first ∙ sym (ap text_of c.in-NotHeld.is) in
    IfOk-weaker _ (λ text. string_bytes text ≡ said) (λ text. string_bytes text ≡ text_of c.args.self) (λ text e. e ∙ same) c.format-in-NotHeld.ensures.ok

pub returns-in-NotACopy : goal.returns-in-NotACopy
returns-in-NotACopy c =
    let said = codes "optsql: not a copy: bank " ++ (decimal c.in-NotACopy.bank ++ (codes " file " ++ decimal c.in-NotACopy.file)) in
    let same : said ≡ text_of c.args.self = text_of-NotACopy c.in-NotACopy.bank c.in-NotACopy.file ∙ sym (ap text_of c.in-NotACopy.is) in
    IfOk-weaker _ (λ text. string_bytes text ≡ said) (λ text. string_bytes text ≡ text_of c.args.self) (λ text e. e ∙ same) c.format-in-NotACopy.ensures.ok
