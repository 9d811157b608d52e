-- Which option a word is where one may stand.
use Rattle.std.proofs.Common.{◌≡◌, ℕ, true, false, List, Some, refl}
use Rattle.std.specs.Prelude.{codes, is_some}
use Rattle.std.specs.Option.{option_map}
use Rattle.lvm_parse.specs.declared.chosen.MkvgOptions.{MkvgOptions}
use Rattle.lvm_parse.specs.declared.chosen.MklvOptions.{MklvOptions}
use Rattle.lvm_parse.specs.Words.{size_in, name_in, copy_count_in, mode_in, policy_in}
use Rattle.lvm_parse.specs.Reading.{NoOption, Alone, Valued, is_new}
use Rattle.lvm_parse.specs.Options.{mkvg_choice, mklv_choice}

pub mkvg_force : (o : MkvgOptions) (word : List ℕ) → is_new word (codes "-f") o.force ≡ true → mkvg_choice o word ≡ Alone (record o { force = true })
mkvg_force o word f = rw f refl

pub mkvg_name : (o : MkvgOptions) (word : List ℕ) → is_new word (codes "-f") o.force ≡ false → is_new word (codes "-y") (is_some o.name) ≡ true → mkvg_choice o word ≡ Valued (λ value. option_map (λ name. record o { name = Some name }) (name_in value))
mkvg_name o word f y = rw (f, y) refl

pub mkvg_size : (o : MkvgOptions) (word : List ℕ) → is_new word (codes "-f") o.force ≡ false → is_new word (codes "-y") (is_some o.name) ≡ false → is_new word (codes "-s") (is_some o.mib) ≡ true → mkvg_choice o word ≡ Valued (λ value. option_map (λ mib. record o { mib = Some mib }) (size_in value))
mkvg_size o word f y s = rw (f, y, s) refl

pub mkvg_none : (o : MkvgOptions) (word : List ℕ) → is_new word (codes "-f") o.force ≡ false → is_new word (codes "-y") (is_some o.name) ≡ false → is_new word (codes "-s") (is_some o.mib) ≡ false → mkvg_choice o word ≡ NoOption
mkvg_none o word f y s = rw (f, y, s) refl

pub mklv_name : (o : MklvOptions) (word : List ℕ) → is_new word (codes "-y") (is_some o.name) ≡ true → mklv_choice o word ≡ Valued (λ value. option_map (λ name. record o { name = Some name }) (name_in value))
mklv_name o word y = rw y refl

pub mklv_copies : (o : MklvOptions) (word : List ℕ) → is_new word (codes "-y") (is_some o.name) ≡ false → is_new word (codes "-c") (is_some o.copies) ≡ true → mklv_choice o word ≡ Valued (λ value. option_map (λ copies. record o { copies = Some copies }) (copy_count_in value))
mklv_copies o word y c = rw (y, c) refl

pub mklv_mode : (o : MklvOptions) (word : List ℕ) → is_new word (codes "-y") (is_some o.name) ≡ false → is_new word (codes "-c") (is_some o.copies) ≡ false → is_new word (codes "-w") (is_some o.mode) ≡ true → mklv_choice o word ≡ Valued (λ value. option_map (λ mode. record o { mode = Some mode }) (mode_in value))
mklv_mode o word y c w = rw (y, c, w) refl

pub mklv_policy : (o : MklvOptions) (word : List ℕ) → is_new word (codes "-y") (is_some o.name) ≡ false → is_new word (codes "-c") (is_some o.copies) ≡ false → is_new word (codes "-w") (is_some o.mode) ≡ false → is_new word (codes "-d") (is_some o.policy) ≡ true → mklv_choice o word ≡ Valued (λ value. option_map (λ policy. record o { policy = Some policy }) (policy_in value))
mklv_policy o word y c w d = rw (y, c, w, d) refl

pub mklv_none : (o : MklvOptions) (word : List ℕ) → is_new word (codes "-y") (is_some o.name) ≡ false → is_new word (codes "-c") (is_some o.copies) ≡ false → is_new word (codes "-w") (is_some o.mode) ≡ false → is_new word (codes "-d") (is_some o.policy) ≡ false → mklv_choice o word ≡ NoOption
mklv_none o word y c w d = rw (y, c, w, d) refl
