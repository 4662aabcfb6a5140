mod Digits
mod WideDigits
