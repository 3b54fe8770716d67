-- The words of a line with a word more, and the first ones of them.
use Rattle.std.proofs.Common.{◌≡◌, ℕ, zero, suc, ◌<◌, List, ◌∷◌, ◌++◌, length, take, Err, refl, arith}
use Rattle.knx_model.specs.declared.refusal.Why.TheVariants.{MissingWord, ExtraWord}
use Rattle.knx_model.specs.declared.script.ScriptWhat.{ScriptWhat}
use Rattle.knx_model.specs.ScriptText.{n_says, device_n_says, telegram_says, cut_says, refuse_says, off_says, standard_says, lose_says, repeat_says, drop_says, then_says, after_word_says, script_words_say, SpellsLine, SpellsLoseUp, SpellsLoseDown, SpellsRepeatUp, SpellsRepeatDown, SpellsDrop, SpellsLoseTo, SpellsLoseFrom, SpellsRepeatTo, SpellsWorn, SpellsClose, SpellsCut, SpellsRefuse, SpellsOff, SpellsStandard, SpellsGroup, SpellsThenGroup}

pub longer : (ws more : List (List ℕ)) (word : List ℕ) (what : ScriptWhat) → SpellsLine ws what → script_words_say (ws ++ word ∷ more) ≡ Err ExtraWord
unfolding script_words_say after_word_says lose_says repeat_says drop_says then_says n_says device_n_says telegram_says cut_says refuse_says off_says standard_says
longer _ more word _ (SpellsLoseUp number n e) = rw e refl
longer _ more word _ (SpellsLoseDown number n e) = rw e refl
longer _ more word _ (SpellsRepeatUp number n e) = rw e refl
longer _ more word _ (SpellsRepeatDown number n e) = rw e refl
longer _ more word _ (SpellsDrop number n e) = rw e refl
longer _ more word _ (SpellsLoseTo address number d n a e) = rw (a, e) refl
longer _ more word _ (SpellsLoseFrom address number d n a e) = rw (a, e) refl
longer _ more word _ (SpellsRepeatTo address number d n a e) = rw (a, e) refl
longer _ more word _ (SpellsWorn address number d n a e) = rw (a, e) refl
longer _ more word _ (SpellsClose address number d n a e) = rw (a, e) refl
longer _ more word _ (SpellsCut address number kept d n k a e f) = rw (a, e, f) refl
longer _ more word _ (SpellsRefuse number digits n status e f) = rw (e, f) refl
longer _ more word _ (SpellsOff address d a) = rw a refl
longer _ more word _ (SpellsStandard address d a) = rw a refl
longer _ more word _ (SpellsGroup address value g service a e) = rw (a, e) refl
longer _ more word _ (SpellsThenGroup address value g service a e) = rw (a, e) refl

first_words : (ws : List (List ℕ)) (what : ScriptWhat) (k : ℕ) → SpellsLine ws what → suc k < length ws → script_words_say (take (suc k) ws) ≡ Err MissingWord
unfolding script_words_say after_word_says lose_says repeat_says drop_says then_says n_says device_n_says telegram_says cut_says refuse_says off_says standard_says
first_words _ _ zero (SpellsLoseUp number n e) less = refl
first_words _ _ (suc zero) (SpellsLoseUp number n e) less = refl
first_words _ _ (suc (suc k)) (SpellsLoseUp number n e) less = absurd (omega arith)
first_words _ _ zero (SpellsLoseDown number n e) less = refl
first_words _ _ (suc zero) (SpellsLoseDown number n e) less = refl
first_words _ _ (suc (suc k)) (SpellsLoseDown number n e) less = absurd (omega arith)
first_words _ _ zero (SpellsRepeatUp number n e) less = refl
first_words _ _ (suc zero) (SpellsRepeatUp number n e) less = refl
first_words _ _ (suc (suc k)) (SpellsRepeatUp number n e) less = absurd (omega arith)
first_words _ _ zero (SpellsRepeatDown number n e) less = refl
first_words _ _ (suc zero) (SpellsRepeatDown number n e) less = refl
first_words _ _ (suc (suc k)) (SpellsRepeatDown number n e) less = absurd (omega arith)
first_words _ _ zero (SpellsDrop number n e) less = refl
first_words _ _ (suc zero) (SpellsDrop number n e) less = refl
first_words _ _ (suc (suc k)) (SpellsDrop number n e) less = absurd (omega arith)
first_words _ _ zero (SpellsLoseTo address number d n a e) less = refl
first_words _ _ (suc zero) (SpellsLoseTo address number d n a e) less = refl
first_words _ _ (suc (suc zero)) (SpellsLoseTo address number d n a e) less = rw a refl
first_words _ _ (suc (suc (suc k))) (SpellsLoseTo address number d n a e) less = absurd (omega arith)
first_words _ _ zero (SpellsLoseFrom address number d n a e) less = refl
first_words _ _ (suc zero) (SpellsLoseFrom address number d n a e) less = refl
first_words _ _ (suc (suc zero)) (SpellsLoseFrom address number d n a e) less = rw a refl
first_words _ _ (suc (suc (suc k))) (SpellsLoseFrom address number d n a e) less = absurd (omega arith)
first_words _ _ zero (SpellsRepeatTo address number d n a e) less = refl
first_words _ _ (suc zero) (SpellsRepeatTo address number d n a e) less = refl
first_words _ _ (suc (suc zero)) (SpellsRepeatTo address number d n a e) less = rw a refl
first_words _ _ (suc (suc (suc k))) (SpellsRepeatTo address number d n a e) less = absurd (omega arith)
first_words _ _ zero (SpellsWorn address number d n a e) less = refl
first_words _ _ (suc zero) (SpellsWorn address number d n a e) less = rw a refl
first_words _ _ (suc (suc k)) (SpellsWorn address number d n a e) less = absurd (omega arith)
first_words _ _ zero (SpellsClose address number d n a e) less = refl
first_words _ _ (suc zero) (SpellsClose address number d n a e) less = rw a refl
first_words _ _ (suc (suc k)) (SpellsClose address number d n a e) less = absurd (omega arith)
first_words _ _ zero (SpellsCut address number kept d n count a e f) less = refl
first_words _ _ (suc zero) (SpellsCut address number kept d n count a e f) less = rw a refl
first_words _ _ (suc (suc zero)) (SpellsCut address number kept d n count a e f) less = rw (a, e) refl
first_words _ _ (suc (suc (suc k))) (SpellsCut address number kept d n count a e f) less = absurd (omega arith)
first_words _ _ zero (SpellsRefuse number digits n status e f) less = refl
first_words _ _ (suc zero) (SpellsRefuse number digits n status e f) less = rw e refl
first_words _ _ (suc (suc k)) (SpellsRefuse number digits n status e f) less = absurd (omega arith)
first_words _ _ zero (SpellsOff address d a) less = refl
first_words _ _ (suc k) (SpellsOff address d a) less = absurd (omega arith)
first_words _ _ zero (SpellsStandard address d a) less = refl
first_words _ _ (suc k) (SpellsStandard address d a) less = absurd (omega arith)
first_words _ _ zero (SpellsGroup address value g service a e) less = refl
first_words _ _ (suc zero) (SpellsGroup address value g service a e) less = rw a refl
first_words _ _ (suc (suc k)) (SpellsGroup address value g service a e) less = absurd (omega arith)
first_words _ _ zero (SpellsThenGroup address value g service a e) less = refl
first_words _ _ (suc zero) (SpellsThenGroup address value g service a e) less = refl
first_words _ _ (suc (suc zero)) (SpellsThenGroup address value g service a e) less = rw a refl
first_words _ _ (suc (suc (suc k))) (SpellsThenGroup address value g service a e) less = absurd (omega arith)

pub shorter : (ws : List (List ℕ)) (what : ScriptWhat) (k : ℕ) → SpellsLine ws what → 0 < k → k < length ws → script_words_say (take k ws) ≡ Err MissingWord
shorter ws what zero s some less = absurd (omega arith)
shorter ws what (suc k) s some less = first_words ws what k s less
