use Rattle.std.proofs.Common.{◌≡◌, ℕ, sym, refl, arith}
use Rattle.server.specs.Registered.{registered}
use Rattle.server.proofs.Onward.{lawful_sound, ran_to_end, ends_on}
use Rattle.history.proofs.Onward.{none_ran, ran_flag}
use Rattle.history.proofs.replaying.replay.Goals as goal

pub returns-in-Ok-clause-replays : goal.returns-in-Ok-clause-replays
returns-in-Ok-clause-replays g c =
    let e = c.run_calls-end.ensures in
    let ran = ran_flag _ _ _ _ _ _ _ (sym e.flag) e.ran in
    record { kept = ran_to_end _ _ _ _ ran; onward = ends_on _ _ _ _ ran; flag = e.flag; whole = e.whole; want = λ no some. e.want no }

pub returns-in-Err-clause-replays : goal.returns-in-Err-clause-replays
returns-in-Err-clause-replays g c =
    let m = g.M.ReadableMemory in
    let s = c.args.server.now in
    let none = none_ran (m.means s.memory) (lawful_sound m.means m.sound s.memory) s.settings.write_flag (registered s.registration) c.args.calls.now _ _ c.new.ensures.len c.new.ensures.items in
    record {
      kept = ran_to_end _ _ _ _ none;
      onward = ends_on _ _ _ _ none;
      flag = refl;
      whole = λ e. let z : ◌≡◌ {A = ℕ} 0 1 = cc in absurd (omega arith);
      want = λ e some. omega (arith, c.new.ensures.len, some);
    }
