mod Long
mod Telegram
pub mod Telegrams
