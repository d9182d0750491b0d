use Rattle.std.proofs.Common.{refl, arith}
use Rattle.server.specs.Registered.{registered}
use Rattle.server.specs.Histories.{state_of}
use Rattle.server.proofs.Onward.{lawful_sound, goes_on}
use Rattle.sheet.proofs.Histories.{whole, no_version, led_whole, led_no_version}
use Rattle.sheet.proofs.Sheets.{ends_by_sheet, no_version_told}
use Rattle.sheet.proofs.run.run_sheet.Goals as goal

pub returns : goal.returns
returns g c =
    let x = c.args in
    let m = g.M.ReadableMemory in
    let s = x.server.now in
    let t = c.run_in_window in
    let e = t.ensures in
    let flag = s.settings.write_flag in
    let w = whole x.code x.sheet.now x.cancel t.result x.reply.now t.new.reply (m.means s.memory) (m.means t.new.memory) (lawful_sound m.means m.sound s.memory) flag _ (registered s.registration) (registered t.new.registration) c.if-not-has_version.ensures e.flag e.ends in
    let by_sheet = ends_by_sheet x.code x.sheet.now x.cancel x.reply.now (state_of m.means s) t.result w.ends (λ i. omega (arith, c.type_inv.sheet i)) in
    record {
      ends = w.ends;
      space = w.space;
      flag = e.flag;
      led = led_whole g.M.WritableMemory.leaves x.code x.sheet.now x.cancel x.reply.now (m.means s.memory) flag (registered s.registration) s.memory t.new.memory c.if-not-has_version.ensures e.led;
      history = w.history;
      sheet = by_sheet;
      carries = goes_on _ _ _ _ w.history.reached.showed w.history.reached.led;
    }

pub returns-then-not-has_version : goal.returns-then-not-has_version
returns-then-not-has_version g c =
    let x = c.args in
    let m = g.M.ReadableMemory in
    let s = x.server.now in
    let flag = s.settings.write_flag in
    let lacks = c.if-not-has_version.ensures in
    let w = no_version x.code x.sheet.now x.cancel x.reply.now (m.means s.memory) (lawful_sound m.means m.sound s.memory) flag (registered s.registration) c.no_version.result c.no_version.ensures lacks in
    let by_sheet = no_version_told x.code x.sheet.now x.cancel x.reply.now (state_of m.means s) c.no_version.result c.no_version.ensures lacks (λ i. omega (arith, c.type_inv.sheet i)) in
    record {
      ends = w.ends;
      space = w.space;
      flag = refl;
      led = led_no_version g.M.WritableMemory.leaves x.code x.sheet.now x.cancel x.reply.now (m.means s.memory) flag (registered s.registration) s.memory lacks;
      history = w.history;
      sheet = by_sheet;
      carries = goes_on _ _ _ _ w.history.reached.showed w.history.reached.led;
    }
